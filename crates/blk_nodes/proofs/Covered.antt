-- What is left where an overlay is put over a node.
use Rattle.std.proofs.Common.{◌≡◌, ◌≢◌, ℕ, ◌==◌, Bool, true, false, cond, ◌&&◌, not, List, Option, Some, None, Result, Ok, Err, refl, sym, ◌∙◌, ap, subst, inl, inr}
use Rattle.std.specs.Prelude.{OnOk, OnErr}
use Rattle.std.specs.Option.{option_map}
use Rattle.std.proofs.lemmas.Bool.{eq-eqb, ne_eqb, cases_eq}
use Rattle.blk_graph.specs.Edits.{child_of, child_after, stays, with_edge, with_over, child_moved}
use Rattle.blk_graph.specs.Graph.{Graph, HasNode, IsSoundGraph}
use Rattle.blk_graph.specs.Judged.{with_edges}
use Rattle.blk_graph.specs.declared.stop.GraphStop.{GraphStop}
use Rattle.blk_graph.specs.Permissions.{node_edge, has_role}
use Rattle.blk_graph.specs.Refreshed.{kind_at, refreshed}
use Rattle.blk_graph.specs.declared.edge.Edge.{Edge}
use Rattle.blk_graph.specs.declared.edge.Parent.TheVariants.{Node}
use Rattle.blk_graph.specs.declared.edge.Role.{Role}
use Rattle.blk_graph.specs.declared.edge.Role.TheVariants.{File as FileRole, Backing as BackingRole, Filtered}
use Rattle.blk_graph.specs.declared.kind.NodeKind.{NodeKind}
use Rattle.blk_graph.proofs.ChildLemmas.{child-kept}
use Rattle.blk_graph.proofs.DraftLemmas.{children_put, child_put, children_replaced}
use Rattle.blk_graph.proofs.RefreshLemmas.{child_of-refreshed}
use Rattle.q2_image.specs.Image.{Known}
use Rattle.blk_nodes.specs.Covering.{IsCover}
use Rattle.blk_nodes.specs.Joined.{IsFile, HasSize, HasBelow, IsJoined}
use Rattle.blk_nodes.specs.Nodes.{Nodes, row_at, file_of, backing_of, filtered_of, driver_kind}
use Rattle.blk_nodes.specs.declared.row.Driver.{Driver}
use Rattle.blk_nodes.specs.declared.row.Driver.TheVariants.{File, Raw, Qcow2, CopyOnRead, Filter}
use Rattle.blk_nodes.specs.declared.row.Row.{Row}

-- the edges of other nodes to one of them lead to the overlay
pub record AreMoved (old new : List Edge) (node overlay : ℕ) : Type 0 where
  pub others : (n : ℕ) (role : Role) → n ≢ overlay → child_of (Node n) role new ≡ option_map (child_moved node overlay) (child_of (Node n) role old)
  pub file : child_of (Node overlay) FileRole new ≡ child_of (Node overlay) FileRole old
  pub backing : child_of (Node overlay) BackingRole new ≡ Some node

map_same : (f g : ℕ → ℕ) → ((c : ℕ) → f c ≡ g c) → (found : Option ℕ) → option_map f found ≡ option_map g found
map_same f g each None = refl
map_same f g each (Some c) = ap (λ (n : ℕ). Some n) (each c)

map_id : (f : ℕ → ℕ) → ((c : ℕ) → f c ≡ c) → (found : Option ℕ) → option_map f found ≡ found
map_id f each None = refl
map_id f each (Some c) = ap (λ (n : ℕ). Some n) (each c)

-- the edges of a graph whose node was put under an overlay
module _ (node overlay : ℕ) where
  moves : (n c : ℕ) → n ≢ overlay → child_after node overlay (Some (Node overlay)) (Node n) c ≡ child_moved node overlay c
  moves n c apart = by_child (c == node)
    where
      leaves : stays (Some (Node overlay)) (Node n) ≡ false
      leaves = rw (ne_eqb overlay n (λ same. apart (sym same))) refl

      by_child : (b : Bool) → cond (b && not (stays (Some (Node overlay)) (Node n))) overlay c ≡ cond b overlay c
      by_child true = rw leaves refl
      by_child false = refl

  remains : (c : ℕ) → child_after node overlay (Some (Node overlay)) (Node overlay) c ≡ c
  remains c = by_child (c == node)
    where
      stay : stays (Some (Node overlay)) (Node overlay) ≡ true
      stay = rw (eq-eqb overlay overlay refl) refl

      by_child : (b : Bool) → cond (b && not (stays (Some (Node overlay)) (Node overlay))) overlay c ≡ c
      by_child true = rw stay refl
      by_child false = refl

  pub moved_edges : (kinds : List NodeKind) (edges : List Edge) → AreMoved edges (refreshed kinds (with_over node overlay edges)) node overlay
  moved_edges kinds edges =
      let own : Edge = node_edge overlay BackingRole node in
      let backed : List Edge = with_edge own edges in
      let all : List Edge = with_over node overlay edges in
      record {
        others = λ n role apart.
            child_of-refreshed kinds (Node n) role all ∙ children_replaced node overlay (Some (Node overlay)) backed (Node n) role
            ∙ map_same _ _ (λ c. moves n c apart) (child_of (Node n) role backed)
            ∙ ap (option_map (child_moved node overlay)) (child-kept (Node n) role own edges (λ same. apart (let is : overlay ≡ n = cc in sym is)));
        file = child_of-refreshed kinds (Node overlay) FileRole all
            ∙ children_replaced node overlay (Some (Node overlay)) backed (Node overlay) FileRole
            ∙ map_id _ remains (child_of (Node overlay) FileRole backed)
            ∙ children_put own edges (Node overlay) FileRole (rw (eq-eqb overlay overlay refl) refl);
        backing = child_of-refreshed kinds (Node overlay) BackingRole all
            ∙ children_replaced node overlay (Some (Node overlay)) backed (Node overlay) BackingRole
            ∙ map_id _ remains (child_of (Node overlay) BackingRole backed) ∙ child_put own edges (λ is. cc is);
      }

module _ (nodes : Nodes) (edges : List Edge) (node overlay : ℕ) (joined : IsJoined nodes) (cover : IsCover nodes node overlay)
    (moved : AreMoved nodes.graph.edges edges node overlay) where
  abbrev pub over : Nodes
  over = record nodes { graph = record nodes.graph { edges = edges } }

  pub moved-other : (c : ℕ) → c ≢ node → child_moved node overlay c ≡ c
  moved-other c apart = rw (ne_eqb c node apart) refl

  pub moved-node : child_moved node overlay node ≡ overlay
  moved-node = rw (eq-eqb node node refl) refl

  file_over : (n : ℕ) → IsFile nodes n → IsFile over n
  file_over n is = record { row = is.row; there = is.there; driver = is.driver }

  size_over : (n size : ℕ) → HasSize nodes n size → HasSize over n size
  size_over n size has = record { row = has.row; there = has.there; is = has.is }

  -- the overlay has the node's size
  overlay_size : (size : ℕ) → HasSize nodes node size → HasSize over overlay size
  overlay_size size has =
      let same = cover.same in
      let rows : has.row ≡ same.row = cc (sym has.there ∙ same.there) in
      let sized = rw cover.driver at (joined.sized overlay cover.row cover.there) in
      let size : cover.row.size ≡ cover.image.header.size = sym sized in
      record {
        row = cover.row;
        there = cover.there;
        is = size ∙ sym same.is ∙ ap (λ (r : Row). r.size) (sym rows) ∙ has.is;
      }

  moved_size : (c size : ℕ) → HasSize nodes c size → HasSize over (child_moved node overlay c) size
  moved_size c size has = elim (cases_eq c node) [
    | inl same ↦ rw (same, moved-node) (overlay_size size (subst (λ (n : ℕ). HasSize nodes n size) same has))
    | inr apart ↦ rw (moved-other c apart) (size_over c size has)
  ]

  -- a format node's file stays
  pub format_file : (n : ℕ) (row : Row) (file : ℕ) → row_at nodes n ≡ Some row → (row.driver ≡ CopyOnRead → ⊥) → file_of nodes n ≡ Some file → file_of over n ≡ Some file
  format_file n row file there format edge = elim (cases_eq n overlay) [
    | inl same ↦ ap (file_of over) same ∙ moved.file ∙ ap (file_of nodes) (sym same) ∙ edge
    | inr apart ↦
        let other : file ≢ node = λ is. format (cover.files n row there (edge ∙ ap (λ (f : ℕ). Some f) is)) in
        moved.others n FileRole apart ∙ ap (option_map (child_moved node overlay)) edge ∙ ap (λ (f : ℕ). Some f) (moved-other file other)
  ]

  -- a backing node is the one before, moved, or the overlay's
  backing_size : (n next size : ℕ) → ((b : ℕ) → backing_of nodes n ≡ Some b → HasSize nodes b size) → (n ≡ overlay → HasSize nodes node size)
      → backing_of over n ≡ Some next → HasSize over next size
  backing_size n next size before own edge = elim (cases_eq n overlay) [
    | inl same ↦
        let is : node ≡ next = cc (sym moved.backing ∙ ap (backing_of over) (sym same) ∙ edge) in
        size_over next size (subst (λ (m : ℕ). HasSize nodes m size) is (own same))
    | inr apart ↦ by_old (backing_of nodes n) refl (sym (moved.others n BackingRole apart) ∙ edge)
  ]
    where
      by_old : (found : Option ℕ) → backing_of nodes n ≡ found → option_map (child_moved node overlay) (backing_of nodes n) ≡ Some next → HasSize over next size
      by_old None is now = let bad = ap (option_map (child_moved node overlay)) (sym is) ∙ now in absurd (cc bad)
      by_old (Some b) is now =
          let to : child_moved node overlay b ≡ next = cc (ap (option_map (child_moved node overlay)) (sym is) ∙ now) in
          subst (λ (m : ℕ). HasSize over m size) to (moved_size b size (before b is))

  -- and so is the child of a filter
  filter_size : (n next size : ℕ) → ((c : ℕ) → filtered_of nodes n ≡ Some c → HasSize nodes c size)
      → option_map (child_moved node overlay) (filtered_of nodes n) ≡ Some next → HasSize over next size
  filter_size n next size before now = by_old (filtered_of nodes n) refl
    where
      by_old : (found : Option ℕ) → filtered_of nodes n ≡ found → HasSize over next size
      by_old None is = let bad = ap (option_map (child_moved node overlay)) (sym is) ∙ now in absurd (cc bad)
      by_old (Some c) is =
          let to : child_moved node overlay c ≡ next = cc (ap (option_map (child_moved node overlay)) (sym is) ∙ now) in
          subst (λ (m : ℕ). HasSize over m size) to (moved_size c size (before c is))

  below_over : (n : ℕ) (row : Row) (driver : Driver) → row_at nodes n ≡ Some row → row.driver ≡ driver → HasBelow nodes n row.size driver
      → HasBelow over n row.size driver
  below_over n row File there driver is = is
  below_over n row (Raw part) there driver is = record {
    file = is.file;
    edge = format_file n row is.file there (λ copies. let bad = sym driver ∙ copies in absurd (cc bad)) is.edge;
    is_file = file_over is.file is.is_file;
    within = is.within;
  }
  below_over n row (Qcow2 image) there driver is = record {
    file = is.file;
    edge = format_file n row is.file there (λ copies. let bad = sym driver ∙ copies in absurd (cc bad)) is.edge;
    is_file = file_over is.file is.is_file;
    opened = is.opened;
    known = is.known;
    backing = λ next edge. backing_size n next image.header.size is.backing
        (λ same.
        let rows : row ≡ cover.row = cc (sym there ∙ ap (row_at nodes) same ∙ cover.there) in
        let images : image ≡ cover.image = cc (sym driver ∙ ap (λ (r : Row). r.driver) rows ∙ cover.driver) in
        subst (λ (i : Known). HasSize nodes node i.header.size) (sym images) cover.same)
        edge;
  }
  below_over n row CopyOnRead there driver is = elim (cases_eq n overlay) [
    | inl same ↦
        let rows : row ≡ cover.row = cc (sym there ∙ ap (row_at nodes) same ∙ cover.there) in
        let bad : CopyOnRead ≡ Qcow2 cover.image = sym driver ∙ ap (λ (r : Row). r.driver) rows ∙ cover.driver in
        absurd (cc bad)
    | inr apart ↦ record {
      child = child_moved node overlay is.child;
      edge = moved.others n FileRole apart ∙ ap (option_map (child_moved node overlay)) is.edge;
      same = moved_size is.child row.size is.same;
    }
  ]
  below_over n row (Filter kind) there driver is = λ next edge. elim (cases_eq n overlay) [
    | inl same ↦
        let rows : row ≡ cover.row = cc (sym there ∙ ap (row_at nodes) same ∙ cover.there) in
        let bad : Filter kind ≡ Qcow2 cover.image = sym driver ∙ ap (λ (r : Row). r.driver) rows ∙ cover.driver in
        absurd (cc bad)
    | inr apart ↦ filter_size n next row.size is (sym (moved.others n Filtered apart) ∙ edge)
  ]

  pub joined_over : IsSoundGraph over.graph → IsJoined over
  joined_over sound = record {
    rows = joined.rows;
    sound = sound;
    kinds = joined.kinds;
    there = joined.there;
    only = joined.only;
    sized = joined.sized;
    below = λ n row there. below_over n row row.driver there refl (joined.below n row there);
    devices = λ n some. file_over n (joined.devices n some);
    once = joined.once;
  }

-- the overlay is a node that may have a backing node
pub overlay_there : (nodes : Nodes) (node overlay : ℕ) → IsJoined nodes → IsCover nodes node overlay → HasNode nodes.graph overlay
overlay_there nodes node overlay joined cover = joined.only overlay (rw cover.there refl)

pub overlay_role : (nodes : Nodes) (node overlay : ℕ) → IsJoined nodes → IsCover nodes node overlay → has_role (kind_at nodes.graph.kinds overlay).kind BackingRole ≡ true
overlay_role nodes node overlay joined cover =
    ap (λ (k : NodeKind). has_role k.kind BackingRole) (joined.kinds overlay cover.row cover.there)
    ∙ ap (λ (d : Driver). has_role (driver_kind d) BackingRole) cover.driver

-- all belongs together afterwards, whatever the graph answered
pub when_taken : (nodes : Nodes) (graph : Graph) (node overlay : ℕ) (result : Result (Unit {0}) GraphStop) → IsJoined nodes → IsCover nodes node overlay
    → OnOk result (graph ≡ with_edges nodes.graph (with_over node overlay nodes.graph.edges)) → OnErr result (graph ≡ nodes.graph) → IsSoundGraph graph
    → IsJoined (record nodes { graph = graph })
when_taken nodes graph node overlay (Ok done) joined cover ok err sound =
    let made : IsSoundGraph (with_edges nodes.graph (with_over node overlay nodes.graph.edges)) = rw ok at sound in
    rw ok (joined_over nodes (refreshed nodes.graph.kinds (with_over node overlay nodes.graph.edges)) node overlay joined cover
    (moved_edges node overlay nodes.graph.kinds nodes.graph.edges) made)
when_taken nodes graph node overlay (Err stop) joined cover ok err sound = rw err joined
