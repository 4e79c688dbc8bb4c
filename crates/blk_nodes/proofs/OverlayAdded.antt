-- A qcow2 node that was added: what it has below it, and what each node reads as.
use Rattle.std.proofs.Common.{◌≡◌, ◌≢◌, ℕ, ◌<◌, ◌==◌, Bool, true, false, cond, List, [], ◌∷◌, ◌++◌, set, Option, Some, None, refl, sym, ◌∙◌, ap, subst, inl, inr}
use Rattle.std.specs.Prelude.{IfSome, Contains, find}
use Rattle.std.specs.Option.{option_map}
use Rattle.std.proofs.lemmas.Bool.{eqb-true, eq-eqb}
use Rattle.std.proofs.lemmas.List.Elements.{Contains-push_cases}
use Rattle.blk_graph.specs.Edits.{IsLone, takes_place, is_edge, child_of, with_edge}
use Rattle.blk_graph.specs.Graph.{Graph, HasNode, IsSoundGraph, with_node}
use Rattle.blk_graph.specs.Permissions.{node_edge}
use Rattle.blk_graph.specs.declared.edge.Edge.{Edge}
use Rattle.blk_graph.specs.declared.edge.Parent.TheVariants.{Node}
use Rattle.blk_graph.specs.declared.edge.Role.{Role}
use Rattle.blk_graph.specs.declared.edge.Role.TheVariants.{File as FileRole, Backing as BackingRole, Filtered}
use Rattle.blk_graph.specs.declared.kind.NodeKind.{NodeKind}
use Rattle.blk_graph.proofs.ChildLemmas.{with_edge-end, child-new, child-kept}
use Rattle.blk_graph.proofs.InverseLemmas.{find-push, same_parent-false}
use Rattle.blk_graph.proofs.Members.{Contains-here, Contains-there}
use Rattle.blk_graph.proofs.RefreshLemmas.{child_of-refreshed}
use Rattle.blk_graph.proofs.RuleLemmas.{find-none}
use Rattle.q2_format.specs.Contents.{image_disk}
use Rattle.q2_image.specs.Image.{Known}
use Rattle.blk_nodes.specs.Adding.{file_edge}
use Rattle.blk_nodes.specs.Contents.{disk_under, disk_of, bytes_of}
use Rattle.blk_nodes.specs.Joined.{IsFile, HasSize, IsOverlay, IsJoined}
use Rattle.blk_nodes.specs.Nodes.{Nodes, DeviceSeen, row_at, size_by, node_size, file_of, backing_of, node_kind}
use Rattle.blk_nodes.specs.Overlays.{Asked, backing_node, backing_size, backing_stop, format_edges, copying_row, qcow2_row, with_children, with_qcow2, IsOpened, IsOpening, MayBeAdded, IsQcow2Stop}
use Rattle.blk_nodes.specs.Reading.{HaveRisen}
use Rattle.blk_nodes.specs.declared.backing.Backing.{Backing}
use Rattle.blk_nodes.specs.declared.backing.Backing.TheVariants as said
use Rattle.blk_nodes.specs.declared.row.Row.{Row}
use Rattle.blk_nodes.specs.declared.stop.AddStop.{AddStop}
use Rattle.blk_nodes.specs.declared.stop.AddStop.TheVariants as stops
use Rattle.blk_nodes.proofs.Additions.{Extends, has_after, file_kept, row_new, row_stays, no_row, joined_added, some_row}
use Rattle.blk_nodes.proofs.Disks.{disks_risen}
use Rattle.blk_nodes.proofs.Joints.{joined_after}
use Rattle.blk_nodes.proofs.KeptDisks.{disk_stays}
use Rattle.blk_nodes.proofs.Unfolding.{unfolds}

find-end : (p : Edge → Bool) (new : Edge) → p new ≡ false → (edges : List Edge) → find p (edges ++ new ∷ []) ≡ find p edges
find-end p new fails [] = rw fails refl
find-end p new fails (e ∷ edges) = by_test (p e) (find-end p new fails edges)
  where
    by_test : (b : Bool) → find p (edges ++ new ∷ []) ≡ find p edges → cond b (Some e) (find p (edges ++ new ∷ [])) ≡ cond b (Some e) (find p edges)
    by_test true rest = refl
    by_test false rest = rest

-- an edge that takes no other's place comes to the end
put-end : (new : Edge) (edges : List Edge) → ((e : Edge) → Contains edges e → takes_place new e ≡ false) → with_edge new edges ≡ edges ++ new ∷ []
put-end new [] apart = refl
put-end new (old ∷ edges) apart =
    rw (apart old (Contains-here old edges))
    (ap (λ (es : List Edge). old ∷ es) (put-end new edges (λ e there. apart e (Contains-there old edges e there))))

-- the children of a node whose edges these are
module _ (edges : List Edge) (id file : ℕ) (leaves : (edge : Edge) → Contains edges edge → edge.parent ≢ Node id) where
  abbrev filed : List Edge
  filed = edges ++ file_edge id file ∷ []

  filed-is : with_edge (file_edge id file) edges ≡ filed
  filed-is = with_edge-end (file_edge id file) edges leaves

  not_backing : (e : Edge) → Contains filed e → is_edge (Node id) BackingRole e ≡ false
  not_backing e there = elim (Contains-push_cases edges (file_edge id file) e there) [
    | inl before ↦ rw (same_parent-false e.parent (Node id) (leaves e before)) refl
    | inr is ↦ rw (← is, eq-eqb id id refl) refl
  ]

  no_place : (over : ℕ) (e : Edge) → Contains filed e → takes_place (node_edge id BackingRole over) e ≡ false
  no_place over e there = elim (Contains-push_cases edges (file_edge id file) e there) [
    | inl before ↦ rw (same_parent-false (Node id) e.parent (λ same. leaves e before (sym same))) refl
    | inr is ↦ rw (← is, eq-eqb id id refl) refl
  ]

  backed-is : (over : ℕ) → with_edge (node_edge id BackingRole over) (with_edge (file_edge id file) edges) ≡ filed ++ node_edge id BackingRole over ∷ []
  backed-is over = ap (with_edge (node_edge id BackingRole over)) filed-is ∙ put-end (node_edge id BackingRole over) filed (no_place over)

  pub file_child : (backing : Option ℕ) → child_of (Node id) FileRole (format_edges id file backing edges) ≡ Some file
  file_child None = child-new (file_edge id file) edges leaves
  file_child (Some over) =
      ap (child_of (Node id) FileRole) (backed-is over)
      ∙ ap (option_map (λ (e : Edge). e.child)) (find-end (is_edge (Node id) FileRole) (node_edge id BackingRole over) (rw (eq-eqb id id refl) refl) filed)
      ∙ ap (child_of (Node id) FileRole) (sym filed-is) ∙ child-new (file_edge id file) edges leaves

  pub backing_child : (backing : Option ℕ) → child_of (Node id) BackingRole (format_edges id file backing edges) ≡ backing
  backing_child None =
      ap (child_of (Node id) BackingRole) filed-is ∙ ap (option_map (λ (e : Edge). e.child)) (find-none (is_edge (Node id) BackingRole) filed not_backing)
  backing_child (Some over) =
      ap (child_of (Node id) BackingRole) (backed-is over)
      ∙ ap (option_map (λ (e : Edge). e.child))
      (find-push (is_edge (Node id) BackingRole) (node_edge id BackingRole over) (rw (eq-eqb id id refl) refl) filed not_backing)

-- other nodes' children stay
other_children : (edges : List Edge) (id file : ℕ) (backing : Option ℕ) (n : ℕ) (role : Role) → Node id ≢ Node n
    → child_of (Node n) role (format_edges id file backing edges) ≡ child_of (Node n) role edges
other_children edges id file None n role other = child-kept (Node n) role (file_edge id file) edges other
other_children edges id file (Some over) n role other =
    child-kept (Node n) role (node_edge id BackingRole over) (with_edge (file_edge id file) edges) other
    ∙ child-kept (Node n) role (file_edge id file) edges other

-- a backing node that fits has a disk of the image's size
fits_size : (nodes : Nodes) (image : Known) (over : ℕ) → IsJoined nodes → HasNode nodes.graph over
    → backing_stop image (said.Node over) (node_size nodes over) ≡ None → HasSize nodes over image.header.size
fits_size nodes image over joined has fits =
    let found = some_row (row_at nodes over) (joined.there over has) in
    let size : node_size nodes over ≡ found.0.size = ap size_by found.1 in
    record { row = found.0; there = found.1; is = sym size ∙ same (node_size nodes over == image.header.size) refl fits }
  where
    same : (b : Bool) → (node_size nodes over == image.header.size) ≡ b → cond b None (Some stops.SizeDiffers) ≡ None → node_size nodes over ≡ image.header.size
    same true is fits = eqb-true (node_size nodes over) image.header.size is
    same false is fits = absurd (cc fits)

-- a backing node is there, and another than the new one
pub backing_there : (graph : Graph) (id : ℕ) (name : List ℕ) (kind : NodeKind) (found : Option ℕ) → (HasNode graph id → ⊥) → IfSome found (HasNode graph)
    → IfSome found (λ over. HasNode (with_node graph id name kind) over × (over ≢ id))
backing_there graph id name kind None absent has = tt
backing_there graph id name kind (Some over) absent has =
    (has_after graph id name kind over has, λ same. absent (subst (HasNode graph) same has))

-- where there is a backing node
pub whatever : (found : Option ℕ) (P : Type 0) → P → IfSome found (λ _. P)
whatever None P is = tt
whatever (Some over) P is = is

-- why the image isn't had is why the node isn't added
pub stop_by : (old new : Nodes) (asked : Asked) (stop : AddStop) → MayBeAdded old asked
    → IsOpening old.devices new.devices asked.file asked.backing (backing_size old asked.backing) stop → IsQcow2Stop old new asked stop
stop_by old new asked stops.NameTaken may is = absurd is
stop_by old new asked stops.TooManyNodes may is = absurd is
stop_by old new asked (stops.Conflict pair) may is = absurd is
stop_by old new asked (stops.Image stop) may is = (may, is)
stop_by old new asked stops.BackingNeeded may is = (may, is)
stop_by old new asked stops.SizeDiffers may is = (may, is)
stop_by old new asked stops.NoMemory may is = (may, is)

-- one more node, with an edge to a child and one to a backing node, where it has one
module _ (nodes : Nodes) (id : ℕ) (name : List ℕ) (row : Row) (child : ℕ) (over : Option ℕ) (joined : IsJoined nodes) (absent : HasNode nodes.graph id → ⊥) (small : id < 64)
    (lone : IsLone nodes.graph.edges id) where
  abbrev formed : Nodes
  formed = with_children nodes id name row child over

  abbrev kinds_after : List NodeKind
  kinds_after = set nodes.graph.kinds id (node_kind row)

  abbrev edges_after : List Edge
  edges_after = format_edges id child over nodes.graph.edges

  other_parent : (node : ℕ) (r : Row) → row_at nodes node ≡ Some r → Node id ≢ Node node
  other_parent node r there = λ same.
      let is : id ≡ node = cc in
      let bad : Some r ≡ None = sym there ∙ ap (row_at nodes) (sym is) ∙ no_row nodes id joined absent in
      absurd (cc bad)

  pub extends_formed : Extends nodes formed
  extends_formed = record {
    rows = row_stays nodes formed id name row joined absent small refl refl refl;
    devices = λ n some. refl;
    files = λ n r there. child_of-refreshed kinds_after (Node n) FileRole edges_after
        ∙ other_children nodes.graph.edges id child over n FileRole (other_parent n r there);
    backings = λ n r there. child_of-refreshed kinds_after (Node n) BackingRole edges_after
        ∙ other_children nodes.graph.edges id child over n BackingRole (other_parent n r there);
    filters = λ n r there. child_of-refreshed kinds_after (Node n) Filtered edges_after
        ∙ other_children nodes.graph.edges id child over n Filtered (other_parent n r there);
  }

  formed_file : file_of formed id ≡ Some child
  formed_file = child_of-refreshed kinds_after (Node id) FileRole edges_after ∙ file_child nodes.graph.edges id child lone.leaves over

  formed_backing : backing_of formed id ≡ over
  formed_backing = child_of-refreshed kinds_after (Node id) BackingRole edges_after ∙ backing_child nodes.graph.edges id child lone.leaves over

  formed_size : (node size : ℕ) → HasSize nodes node size → HasSize formed node size
  formed_size node size has = record { row = has.row; there = extends_formed.rows node has.row has.there; is = has.is }

  formed_row : row_at formed id ≡ Some row
  formed_row = row_new nodes formed id name row joined absent small refl refl refl

  pub disks_formed : (other : ℕ) → HasNode nodes.graph other → disk_of formed other ≡ disk_of nodes other
  disks_formed = disk_stays nodes formed extends_formed joined

-- a node that copies on read
module _ (nodes : Nodes) (id child size : ℕ) (name : List ℕ) (is_read_only : Bool) (joined : IsJoined nodes) (absent : HasNode nodes.graph id → ⊥) (small : id < 64)
    (lone : IsLone nodes.graph.edges id) (has : HasNode nodes.graph child) (is : node_size nodes child ≡ size) where
  abbrev copying : Nodes
  copying = with_children nodes id name (copying_row size is_read_only) child None

  child_size : HasSize nodes child size
  child_size =
      let found = some_row (row_at nodes child) (joined.there child has) in
      record { row = found.0; there = found.1; is = sym (ap size_by found.1) ∙ is }

  pub joined_copying : IsSoundGraph copying.graph → IsJoined copying
  joined_copying sound =
      joined_added nodes copying id name (copying_row size is_read_only) joined absent small refl refl refl
      (extends_formed nodes id name (copying_row size is_read_only) child None joined absent small lone) sound tt
      (record {
        child = child;
        edge = formed_file nodes id name (copying_row size is_read_only) child None joined absent small lone;
        same = formed_size nodes id name (copying_row size is_read_only) child None joined absent small lone child size child_size;
      })
      (λ n some. inr some) joined.once

  pub disks_copying : (other : ℕ) → HasNode nodes.graph other → disk_of copying other ≡ disk_of nodes other
  disks_copying = disks_formed nodes id name (copying_row size is_read_only) child None joined absent small lone

  pub disk_copying : IsSoundGraph copying.graph → disk_of copying id ≡ disk_of nodes child
  disk_copying sound =
      unfolds copying (joined_copying sound) id (copying_row size is_read_only)
      (formed_row nodes id name (copying_row size is_read_only) child None joined absent small lone)
      ∙ ap (disk_under (disk_of copying)) (formed_file nodes id name (copying_row size is_read_only) child None joined absent small lone)
      ∙ disks_copying child has

-- a qcow2 node
module _ (nodes : Nodes) (asked : Asked) (id : ℕ) (image : Known) (joined : IsJoined nodes) (absent : HasNode nodes.graph id → ⊥) (small : id < 64)
    (lone : IsLone nodes.graph.edges id) (is_file : IsFile nodes asked.file) where
  abbrev row : Row
  row = qcow2_row image asked.is_read_only

  abbrev over : Option ℕ
  over = backing_node asked.backing

  abbrev made : Nodes
  made = with_qcow2 nodes asked id image

  own_backing : backing_of made id ≡ over
  own_backing = formed_backing nodes id asked.name row asked.file over joined absent small lone

  over_size : (backing : Backing) (node : ℕ) → IfSome (backing_node backing) (HasNode nodes.graph) → backing_stop image backing (backing_size nodes backing) ≡ None
      → backing_node backing ≡ Some node → HasSize nodes node image.header.size
  over_size said.Unsaid node has fits is = absurd (cc is)
  over_size said.Null node has fits is = absurd (cc is)
  over_size (said.Node below) node has fits is =
      let same : below ≡ node = cc in
      subst (λ (n : ℕ). HasSize nodes n image.header.size) same (fits_size nodes image below joined has fits)

  module _ (has : IfSome (backing_node asked.backing) (HasNode nodes.graph)) (opened : IsOpened nodes.devices asked.file image)
      (fits : backing_stop image asked.backing (backing_size nodes asked.backing) ≡ None) (sound : IsSoundGraph made.graph) where
    overlay : IsOverlay made id image
    overlay = record {
      file = asked.file;
      edge = formed_file nodes id asked.name row asked.file over joined absent small lone;
      is_file = file_kept nodes made (extends_formed nodes id asked.name row asked.file over joined absent small lone) asked.file is_file;
      opened = opened.on.opened;
      known = λ device bytes held told.
          let same : opened.device ≡ device = cc (sym opened.held ∙ held) in
          opened.on.known bytes (ap (λ (d : DeviceSeen). d.content) same ∙ told);
      backing = λ node edge. formed_size nodes id asked.name row asked.file over joined absent small lone node image.header.size
          (over_size asked.backing node has fits (sym own_backing ∙ edge));
    }

    joined_qcow2 : IsJoined made
    joined_qcow2 = joined_added nodes made id asked.name row joined absent small refl refl refl
        (extends_formed nodes id asked.name row asked.file over joined absent small lone) sound refl overlay (λ n some. inr some) joined.once

    disks_qcow2 : (other : ℕ) → HasNode nodes.graph other → disk_of made other ≡ disk_of nodes other
    disks_qcow2 = disks_formed nodes id asked.name row asked.file over joined absent small lone

    below_stays : (node : Option ℕ) → IfSome node (HasNode nodes.graph) → disk_under (disk_of made) node ≡ disk_under (disk_of nodes) node
    below_stays None is = refl
    below_stays (Some node) is = disks_qcow2 node is

    disk_qcow2 : disk_of made id ≡ image_disk (bytes_of nodes asked.file) (disk_under (disk_of nodes) over)
    disk_qcow2 =
        unfolds made joined_qcow2 id row (formed_row nodes id asked.name row asked.file over joined absent small lone)
        ∙ ap (λ (file : Option ℕ). image_disk (disk_under (bytes_of made) file) (disk_under (disk_of made) (backing_of made id)))
        (formed_file nodes id asked.name row asked.file over joined absent small lone)
        ∙ ap (λ (node : Option ℕ). image_disk (bytes_of nodes asked.file) (disk_under (disk_of made) node)) own_backing
        ∙ ap (image_disk (bytes_of nodes asked.file)) (below_stays over has)

    -- the same where counts of devices have risen meanwhile
    module _ (devices : List DeviceSeen) (risen : HaveRisen nodes.devices devices) where
      pub joined_opened : IsJoined (record made { devices = devices })
      joined_opened = joined_after made devices risen joined_qcow2

      pub disks_opened : (other : ℕ) → HasNode nodes.graph other → disk_of (record made { devices = devices }) other ≡ disk_of nodes other
      disks_opened other there = disks_risen made devices risen other ∙ disks_qcow2 other there

      pub disk_opened : disk_of (record made { devices = devices }) id ≡ image_disk (bytes_of nodes asked.file) (disk_under (disk_of nodes) over)
      disk_opened = disks_risen made devices risen id ∙ disk_qcow2
