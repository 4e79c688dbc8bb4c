-- What a list of changes that leave the nodes keeps: its edges fit the graph and are derived, an edge below a disk leads to one of its size, and
-- format nodes keep their files.
use Rattle.std.proofs.Common.{◌≡◌, ◌≢◌, ℕ, ◌<◌, Bool, true, false, cond, List, [], ◌∷◌, map, replicate, refl, sym, ap, subst, ◌∙◌, inl, inr, Option, Some, None, option_map}
use Rattle.std.specs.Prelude.{◌==◌, ◌&&◌, not, IsSome}
use Rattle.std.specs.List.{filter, find, Contains}
use Rattle.std.proofs.lemmas.Bool.{and_right, eqb-true, ne_eqb}
use Rattle.blk_graph.specs.declared.edge.Edge.{Edge}
use Rattle.blk_graph.specs.declared.edge.Parent.{Parent}
use Rattle.blk_graph.specs.declared.edge.Parent.TheVariants.{Node, Guest, Job}
use Rattle.blk_graph.specs.declared.edge.Role.{Role}
use Rattle.blk_graph.specs.declared.edge.Role.TheVariants.{File, Backing, Filtered}
use Rattle.blk_graph.specs.declared.kind.JobUse.{JobUse}
use Rattle.blk_graph.specs.declared.kind.JobUse.TheVariants.{CopyTarget, CommitTop, CommitBetween, CommitBase, StreamTop, StreamBelow}
use Rattle.blk_graph.specs.declared.kind.Kind.{Kind}
use Rattle.blk_graph.specs.declared.kind.Kind.TheVariants.{CopyOnRead}
use Rattle.blk_graph.specs.declared.kind.NodeKind.{NodeKind}
use Rattle.blk_graph.specs.Edges.{same_parent, same_role}
use Rattle.blk_graph.specs.Edits.{child_after, child_of, is_edge, replaced, stays, with_child, with_edge, with_replaced, without_edge, without_parent}
use Rattle.blk_graph.specs.Graph.{Graph, HasNode, HasParent, FitsIn, IsFit}
use Rattle.blk_graph.specs.Paths.{IsAcyclic, Reaches}
use Rattle.blk_graph.specs.Permissions.{has_role, job_edge, job_role, node_edge}
use Rattle.blk_graph.specs.Refreshed.{kind_at, no_kind, refreshed, IsOf, IsRefreshed}
use Rattle.blk_graph.proofs.Members.{Contains-filter, Contains-map, find-Some}
use Rattle.blk_graph.proofs.ChildLemmas.{child-without}
use Rattle.blk_graph.proofs.CycleLemmas.{and-left}
use Rattle.blk_graph.proofs.DraftLemmas.{children_removed, children_replaced}
use Rattle.blk_graph.proofs.EditLemmas.{IsSameEdge, Contains-with_edge, Contains-with_edge_new}
use Rattle.blk_graph.proofs.FitLemmas.{IsFit-filter, IsFit-refreshed, IsFit-replaced, IsFit-with_edge, listed_fit}
use Rattle.blk_graph.proofs.PathLemmas.{IsAcyclic-covered, Reaches-edge}
use Rattle.blk_graph.proofs.RefreshLemmas.{child_of-refreshed, IsRefreshed-refreshed}
use Rattle.qmp_rules.specs.declared.change.Change.{Change}
use Rattle.qmp_rules.specs.declared.change.Change.TheVariants as change
use Rattle.qmp_rules.specs.declared.rows.NodeRecord.{NodeRecord}
use Rattle.qmp_rules.specs.Chains.{filter_role}
use Rattle.qmp_rules.specs.Changes.{changed, all_changed, device_edge, kept_from_writes, lost_with, node_changed, rewired, settled, stands_over, unsettled, writable}
use Rattle.qmp_rules.specs.Fitting.{ChangeFits, AllChangesFit}
use Rattle.qmp_rules.specs.Table.{RunTable, child, kind_of_record, kinds_of, node_by_id}
use Rattle.flat_machine.specs.Rewiring.{keeps_nodes, AllKeepNodes}
use Rattle.flat_machine.specs.Suiting.{HaveOneSize, IsThere, TableSuits, AllTableSuit}
use Rattle.flat_machine.specs.Wiring.{IsUnderNoFormat, LeadsToFile, HaveDistinctIds, TableStands}
use Rattle.flat_machine.proofs.Finds.{find-map}
use Rattle.flat_machine.proofs.RowKinds.{kind_or, kind_by, kinds-mapped}
use Rattle.flat_machine.proofs.Tables.{HasLike, refreshed-old, refreshed-new}
use Rattle.flat_machine.proofs.TablesKept.{child-role}
use Rattle.flat_machine.proofs.TableRests.{table_keeps}
use Rattle.flat_machine.proofs.WritingKept.{role_edge}

-- ---- nodes that stay

-- a node is what it was, of its size; it may be written or not, and have a flat disk or not
pub record IsSameNode (row later : NodeRecord) : Type 0 where
  pub id : later.id ≡ row.id
  pub kind : later.kind ≡ row.kind
  pub size : later.size ≡ row.size
  pub offset : later.offset ≡ row.offset

abbrev pub AreSameNode : Option NodeRecord → Option NodeRecord → Type 0
AreSameNode None None = Unit {0}
AreSameNode (Some row) (Some later) = IsSameNode row later
AreSameNode _ _ = ⊥

abbrev pub HaveSameNodes : RunTable → RunTable → Type 0
HaveSameNodes t now = (n : ℕ) → AreSameNode (node_by_id t n) (node_by_id now n)

same_row_itself : (row : NodeRecord) → IsSameNode row row
same_row_itself row = record { id = refl; kind = refl; size = refl; offset = refl }

same_itself : (found : Option NodeRecord) → AreSameNode found found
same_itself None = tt
same_itself (Some row) = same_row_itself row

same_then : (a b c : Option NodeRecord) → AreSameNode a b → AreSameNode b c → AreSameNode a c
same_then None None None ab bc = tt
same_then (Some a) (Some b) (Some c) ab bc = record {
  id = bc.id ∙ ab.id;
  kind = bc.kind ∙ ab.kind;
  size = bc.size ∙ ab.size;
  offset = bc.offset ∙ ab.offset;
}
same_then None None (Some c) ab bc = absurd bc
same_then None (Some b) c ab bc = absurd ab
same_then (Some a) None c ab bc = absurd ab
same_then (Some a) (Some b) None ab bc = absurd bc

-- where each row changes in something else
nodes_mapped : (t now : RunTable) (f : NodeRecord → NodeRecord) → ((row : NodeRecord) → IsSameNode row (f row)) → now.nodes ≡ map f t.nodes
    → HaveSameNodes t now
nodes_mapped t now f same is n =
    subst (AreSameNode (node_by_id t n)) (sym (ap (find (λ r. r.id == n)) is ∙ find-map (λ r. r.id == n) f (λ r. ap (λ id. id == n) (same r).id) t.nodes))
    (mapped (node_by_id t n))
  where
    mapped : (found : Option NodeRecord) → AreSameNode found (option_map f found)
    mapped None = tt
    mapped (Some row) = same row

nodes_same : (t now : RunTable) → now.nodes ≡ t.nodes → HaveSameNodes t now
nodes_same t now is n = subst (λ (rows : List NodeRecord). AreSameNode (node_by_id t n) (find (λ r. r.id == n) rows)) (sym is) (same_itself (node_by_id t n))

-- the row that a row was
pub record WasNode (t : RunTable) (n : ℕ) (later : NodeRecord) : Type 0 where
  pub row : NodeRecord
  pub found : node_by_id t n ≡ Some row
  pub same : IsSameNode row later

pub was_node : (t now : RunTable) → HaveSameNodes t now → (n : ℕ) (later : NodeRecord) → node_by_id now n ≡ Some later → WasNode t n later
was_node t now nodes n later is = by_row (node_by_id t n) refl (subst (AreSameNode (node_by_id t n)) is (nodes n))
  where
    by_row : (found : Option NodeRecord) → node_by_id t n ≡ found → AreSameNode found (Some later) → WasNode t n later
    by_row None e bad = absurd bad
    by_row (Some row) e same = record { row = row; found = e; same = same }

pub stays_there : (t now : RunTable) → HaveSameNodes t now → (n : ℕ) → IsThere t n → IsThere now n
stays_there t now nodes n = by_row (node_by_id t n) (node_by_id now n) (nodes n)
  where
    by_row : (a b : Option NodeRecord) → AreSameNode a b → IsSome a → IsSome b
    by_row None b same some = absurd cc
    by_row (Some a) (Some b) same some = refl
    by_row (Some a) None same some = absurd same

pub was_there : (t now : RunTable) → HaveSameNodes t now → (n : ℕ) → IsThere now n → IsThere t n
was_there t now nodes n = by_row (node_by_id t n) (node_by_id now n) (nodes n)
  where
    by_row : (a b : Option NodeRecord) → AreSameNode a b → IsSome b → IsSome a
    by_row a None same some = absurd cc
    by_row (Some a) (Some b) same some = refl
    by_row None (Some b) same some = absurd same

-- ---- sizes

-- by edges of these roles a node reads all of its child's disk, or has it below its own
abbrev pub keeps_size : Kind → Role → Bool
keeps_size CopyOnRead File = true
keeps_size kind Backing = true
keeps_size kind Filtered = true
keeps_size kind role = false

abbrev pub IsSizedEdge : RunTable → Edge → Type 0
IsSizedEdge t e = (over under : NodeRecord) → node_by_id t over.id ≡ Some over → node_by_id t under.id ≡ Some under → e.parent ≡ Node over.id
    → e.child ≡ under.id → keeps_size over.kind e.role ≡ true → under.size ≡ over.size

abbrev pub AreSized : RunTable → Type 0
AreSized t = (e : Edge) → Contains t.edges e → IsSizedEdge t e

sized_like : (t : RunTable) (a b : Edge) → IsSameEdge a b → IsSizedEdge t a → IsSizedEdge t b
sized_like t a b same sized over under over_is under_is from to keeps =
    sized over under over_is under_is (same.parent ∙ from) (same.child ∙ to) (subst (λ role. keeps_size over.kind role ≡ true) (sym same.role) keeps)

sized_later : (t now : RunTable) → HaveSameNodes t now → (e : Edge) → IsSizedEdge t e → IsSizedEdge now e
sized_later t now nodes e sized over under over_is under_is from to keeps =
    let a = was_node t now nodes over.id over over_is in
    let b = was_node t now nodes under.id under under_is in
    let here : node_by_id t a.row.id ≡ Some a.row = subst (λ n. node_by_id t n ≡ Some a.row) a.same.id a.found in
    let below : node_by_id t b.row.id ≡ Some b.row = subst (λ n. node_by_id t n ≡ Some b.row) b.same.id b.found in
    b.same.size
    ∙ sized a.row b.row here below (from ∙ ap Node a.same.id) (to ∙ b.same.id) (subst (λ k. keeps_size k e.role ≡ true) a.same.kind keeps)
    ∙ sym a.same.size

-- ---- files

-- each format node has the file that it had
abbrev pub HaveSameFiles : RunTable → RunTable → Type 0
HaveSameFiles t now = (row : NodeRecord) → node_by_id t row.id ≡ Some row → filter_role row.kind ≡ None → child now row.id File ≡ child t row.id File

-- ---- edges that fit a graph

abbrev kinded : Graph → RunTable → Graph
kinded g t = record g { kinds = kinds_of t.nodes }

-- they fit the graph where its nodes are what the table's rows say, and each is as those into its parent say
pub record IsDrawn (g : Graph) (t : RunTable) : Type 0 where
  pub fit : IsFit (kinded g t) t.edges
  pub derived : IsRefreshed (kinds_of t.nodes) t.edges

-- what each such change keeps
pub record Keeps (g : Graph) (t now : RunTable) : Type 0 where
  pub nodes : HaveSameNodes t now
  pub drawn : IsDrawn g t → IsDrawn g now
  pub sized : AreSized t → AreSized now
  pub files : HaveSameFiles t now

keeps_then : (g : Graph) (a b c : RunTable) → Keeps g a b → Keeps g b c → Keeps g a c
keeps_then g a b c ab bc = record {
  nodes = λ n. same_then (node_by_id a n) (node_by_id b n) (node_by_id c n) (ab.nodes n) (bc.nodes n);
  drawn = λ drawn. bc.drawn (ab.drawn drawn);
  sized = λ sized. bc.sized (ab.sized sized);
  files = λ row found format. by_row row format found (node_by_id b row.id) refl (subst (λ o. AreSameNode o (node_by_id b row.id)) found (ab.nodes row.id));
}
  where
    by_row : (row : NodeRecord) → filter_role row.kind ≡ None → node_by_id a row.id ≡ Some row → (found : Option NodeRecord) → node_by_id b row.id ≡ found
        → AreSameNode (Some row) found → child c row.id File ≡ child a row.id File
    by_row row format at None e bad = absurd bad
    by_row row format at (Some later) e same =
        let later_at : node_by_id b later.id ≡ Some later = subst (λ n. node_by_id b n ≡ Some later) (sym same.id) e in
        ap (λ n. child c n File) (sym same.id) ∙ bc.files later later_at (ap filter_role same.kind ∙ format) ∙ ap (λ n. child b n File) same.id
        ∙ ab.files row at format

-- ---- edges that stay

keeps_still : (g : Graph) (t now : RunTable) → HaveSameNodes t now → kinds_of now.nodes ≡ kinds_of t.nodes → now.edges ≡ t.edges → Keeps g t now
keeps_still g t now nodes kinds edges = record {
  nodes = nodes;
  drawn = λ drawn. record {
    fit = subst (λ es. IsFit (kinded g now) es) (sym edges) (subst (λ ks. IsFit (record g { kinds = ks }) t.edges) (sym kinds) drawn.fit);
    derived = subst (λ es. IsRefreshed (kinds_of now.nodes) es) (sym edges) (subst (λ ks. IsRefreshed ks t.edges) (sym kinds) drawn.derived);
  };
  sized = λ sized e there. sized_later t now nodes e (sized e (subst (λ es. Contains es e) edges there));
  files = λ row found format. ap (child_of (Node row.id) File) edges;
}

keeps_same : (g : Graph) (t now : RunTable) → now.nodes ≡ t.nodes → now.edges ≡ t.edges → Keeps g t now
keeps_same g t now nodes edges = keeps_still g t now (nodes_same t now nodes) (ap kinds_of nodes) edges

-- ---- edges that are derived from edited ones

module _ (g : Graph) (small : (n : ℕ) → HasNode g n → n < 64) (t now : RunTable) (before : List Edge)
    (derived : now.edges ≡ refreshed (kinds_of now.nodes) before) (h : TableStands now) where
  before_acyclic : IsAcyclic before
  before_acyclic =
      IsAcyclic-covered before now.edges (λ a e there from.
      let like = refreshed-new (kinds_of now.nodes) before e there in
      subst (Reaches now.edges a) like.same.child
      (Reaches-edge now.edges a like.edge (subst (λ es. Contains es like.edge) (sym derived) like.there) (like.same.parent ∙ from)))
      h.acyclic

  keeps_edit : HaveSameNodes t now → (IsFit (kinded g t) t.edges → IsFit (kinded g now) before)
      → (AreSized t → (e : Edge) → Contains before e → IsSizedEdge t e)
      → ((row : NodeRecord) → node_by_id t row.id ≡ Some row → filter_role row.kind ≡ None → child_of (Node row.id) File before ≡ child t row.id File)
      → Keeps g t now
  keeps_edit nodes fit sized files = record {
    nodes = nodes;
    drawn = λ drawn.
        let fits = fit drawn.fit in
        record {
          fit = subst (IsFit (kinded g now)) (sym derived) (IsFit-refreshed (kinded g now) (kinds_of now.nodes) before fits);
          derived = subst (IsRefreshed (kinds_of now.nodes)) (sym derived)
              (IsRefreshed-refreshed (kinds_of now.nodes) before (listed_fit (kinded g now) small before fits) before_acyclic);
        };
    sized = λ were e there.
        let old = refreshed-old (kinds_of now.nodes) before e (subst (λ es. Contains es e) derived there) in
        sized_later t now nodes e (sized_like t old.edge e old.same (sized were old.edge old.there));
    files = λ row found format.
        ap (child_of (Node row.id) File) derived ∙ child_of-refreshed (kinds_of now.nodes) (Node row.id) File before ∙ files row found format;
  }

module _ (g : Graph) (small : (n : ℕ) → HasNode g n → n < 64) (t now : RunTable) (nodes : now.nodes ≡ t.nodes) (h : TableStands now) where
  refit : (edges : List Edge) → IsFit (kinded g t) edges → IsFit (kinded g now) edges
  refit edges fit = subst (λ ks. IsFit (record g { kinds = ks }) edges) (sym (ap kinds_of nodes)) fit

  -- an edge is put, which is to no format node's file
  keeps_put : (new : Edge) → now.edges ≡ refreshed (kinds_of now.nodes) (with_edge new t.edges) → FitsIn (kinded g t) new → IsSizedEdge t new
      → same_role new.role File ≡ false → Keeps g t now
  keeps_put new derived fits own other = keeps_edit g small t now (with_edge new t.edges) derived h (nodes_same t now nodes)
      (λ fit. refit (with_edge new t.edges) (IsFit-with_edge (kinded g t) new t.edges fits fit))
      (λ sized e there. elim (Contains-with_edge new t.edges e there) [
        | inl is ↦ subst (IsSizedEdge t) (sym is) own
        | inr old ↦ sized e old
      ])
      (λ row found format. child-role (Node row.id) File new t.edges other)

  -- a node's backing edge goes
  keeps_unbacked : (node : ℕ) → now.edges ≡ refreshed (kinds_of now.nodes) (without_edge (Node node) Backing t.edges) → Keeps g t now
  keeps_unbacked node derived = keeps_edit g small t now (without_edge (Node node) Backing t.edges) derived h (nodes_same t now nodes)
      (λ fit. refit (without_edge (Node node) Backing t.edges) (IsFit-filter (kinded g t) (λ e. not (is_edge (Node node) Backing e)) t.edges fit))
      (λ sized e there. sized e (Contains-filter (λ x. not (is_edge (Node node) Backing x)) t.edges e there).0)
      (λ row found format. children_removed (Node node) Backing t.edges (Node row.id) File (and_right (same_parent (Node row.id) (Node node)) false refl))

  -- edges of a guest or of a job go
  keeps_without : (gone : Parent) → ((n : ℕ) → gone ≢ Node n) → now.edges ≡ refreshed (kinds_of now.nodes) (without_parent gone t.edges) → Keeps g t now
  keeps_without gone other derived = keeps_edit g small t now (without_parent gone t.edges) derived h (nodes_same t now nodes)
      (λ fit. refit (without_parent gone t.edges) (IsFit-filter (kinded g t) (λ e. not (same_parent e.parent gone)) t.edges fit))
      (λ sized e there. sized e (Contains-filter (λ x. not (same_parent x.parent gone)) t.edges e there).0)
      (λ row found format. child-without gone (Node row.id) File t.edges (other row.id))

module _ (g : Graph) (small : (n : ℕ) → HasNode g n → n < 64) (t now : RunTable) (nodes : now.nodes ≡ t.nodes)
    (there : (n : ℕ) → IsThere t n → HasNode g n) (stands : TableStands t) (h : TableStands now) where
  -- the parents of a node go over to one of its size, but no format node that has it as file
  module _ (from to but : ℕ) (sizes : HaveOneSize t from to) (free : IsUnderNoFormat t from)
      (derived : now.edges ≡ refreshed (kinds_of now.nodes) (with_replaced from to (Some (Node but)) t.edges)) where
    moved_sized : AreSized t → (e : Edge) → Contains (with_replaced from to (Some (Node but)) t.edges) e → IsSizedEdge t e
    moved_sized sized e in_list =
        let r = Contains-map (replaced from to (Some (Node but))) t.edges e in_list in
        subst (IsSizedEdge t) (sym r.2) (by_test r.0 r.1 (r.0.child == from && not (stays (Some (Node but)) r.0.parent)) refl)
      where
        at_from : node_by_id t sizes.row.id ≡ Some sizes.row
        at_from = stands.apart sizes.row (find-Some (λ r. r.id == from) t.nodes sizes.row sizes.found).0

        from_is : sizes.row.id ≡ from
        from_is = eqb-true sizes.row.id from (find-Some (λ r. r.id == from) t.nodes sizes.row sizes.found).1

        by_test : (old : Edge) → Contains t.edges old → (moves : Bool) → (old.child == from && not (stays (Some (Node but)) old.parent)) ≡ moves
            → IsSizedEdge t (cond moves (with_child to old) old)
        by_test old was false is over under over_at under_at parent child keeps = sized old was over under over_at under_at parent child keeps
        by_test old was true is over under over_at under_at parent child keeps =
            let at : old.child ≡ from = eqb-true old.child from (and-left (old.child == from) (not (stays (Some (Node but)) old.parent)) is) in
            let found : node_by_id t to ≡ Some under = subst (λ n. node_by_id t n ≡ Some under) (sym child) under_at in
            let other = sizes.other_found in
            let same : under ≡ sizes.other = cc in
            ap (λ r. r.size) same ∙ sym sizes.same ∙ sized old was over sizes.row over_at at_from parent (at ∙ sym from_is) keeps

    moved_files : (row : NodeRecord) → node_by_id t row.id ≡ Some row → filter_role row.kind ≡ None
        → child_of (Node row.id) File (with_replaced from to (Some (Node but)) t.edges) ≡ child t row.id File
    moved_files row found format =
        children_replaced from to (Some (Node but)) t.edges (Node row.id) File ∙ by_child (child t row.id File) refl
      where
        leads : (e : Edge) → Contains t.edges e → e.parent ≡ Node row.id → e.role ≡ File → e.child ≡ from → LeadsToFile t row sizes.row
        leads e in_table parent role to_from =
            let here = find-Some (λ r. r.id == from) t.nodes sizes.row sizes.found in
            record {
              over_there = (find-Some (λ r. r.id == row.id) t.nodes row found).0;
              under_there = here.0;
              edge = e;
              there = in_table;
              parent = parent;
              role = role;
              child = to_from ∙ sym (eqb-true sizes.row.id from here.1);
            }

        other : (c : ℕ) → child t row.id File ≡ Some c → c ≢ from
        other c is at =
            let e = role_edge (Node row.id) File t.edges c is in
            by_name e.edge e.there e.from e.role_is (e.to ∙ at) sizes.row.filename refl
          where
            by_name : (e : Edge) → Contains t.edges e → e.parent ≡ Node row.id → e.role ≡ File → e.child ≡ from → (name : Option (List ℕ))
                → sizes.row.filename ≡ name → ⊥
            by_name e in_table parent role to_from (Some name) named =
                free sizes.row row sizes.found (subst IsSome (sym named) refl) (leads e in_table parent role to_from) format
            by_name e in_table parent role to_from None named =
                let filter = stands.filtered row sizes.row (leads e in_table parent role to_from) named in
                let none = subst IsSome format filter in
                cc

        by_child : (found : Option ℕ) → child t row.id File ≡ found → option_map (child_after from to (Some (Node but)) (Node row.id)) found ≡ found
        by_child None is = refl
        by_child (Some c) is = rw (ne_eqb c from (other c is)) refl

    keeps_moved : Keeps g t now
    keeps_moved = keeps_edit g small t now (with_replaced from to (Some (Node but)) t.edges) derived h (nodes_same t now nodes)
        (λ fit. refit g small t now nodes h (with_replaced from to (Some (Node but)) t.edges)
        (IsFit-replaced (kinded g t) from to (Some (Node but)) t.edges (there to (subst IsSome (sym sizes.other_found) refl)) fit))
        moved_sized moved_files

-- nodes may be written, or no longer
module _ (g : Graph) (small : (n : ℕ) → HasNode g n → n < 64) (t now : RunTable) (nodes : HaveSameNodes t now) (apart : HaveDistinctIds t)
    (h : TableStands now) where
  kind_stays : (n : ℕ) → n < 64 → (kind_at (kinds_of now.nodes) n).kind ≡ (kind_at (kinds_of t.nodes) n).kind
  kind_stays n less =
      ap (λ (k : NodeKind). k.kind) (kind_by now n h.apart less) ∙ by_row (node_by_id t n) (node_by_id now n) (nodes n)
      ∙ ap (λ (k : NodeKind). k.kind) (sym (kind_by t n apart less))
    where
      by_row : (a b : Option NodeRecord) → AreSameNode a b → (kind_or no_kind b).kind ≡ (kind_or no_kind a).kind
      by_row None None same = refl
      by_row (Some a) (Some b) same = same.kind
      by_row None (Some b) same = absurd same
      by_row (Some a) None same = absurd same

  fits_still : (e : Edge) → FitsIn (kinded g t) e → FitsIn (kinded g now) e
  fits_still e fits = record { parent = fits.parent; child = fits.child; table = by_parent e.parent fits.parent fits.table }
    where
      by_parent : (p : Parent) → HasParent (kinded g t) p → IsOf (kinds_of t.nodes) e p → IsOf (kinds_of now.nodes) e p
      by_parent (Node n) there is = subst (λ k. has_role k e.role ≡ true) (sym (kind_stays n (small n there))) is
      by_parent (Guest guest) there is = is
      by_parent (Job job) there is = is

  keeps_access : now.edges ≡ refreshed (kinds_of now.nodes) t.edges → Keeps g t now
  keeps_access derived = keeps_edit g small t now t.edges derived h nodes
      (λ fit. record { each = λ e in_list. fits_still e (fit.each e in_list); places = fit.places })
      (λ sized. sized) (λ row found format. refl)

-- ---- each kind of change

same_unsettled : (id : ℕ) (row : NodeRecord) → IsSameNode row (node_changed id unsettled row)
same_unsettled id row = by_test (row.id == id)
  where
    by_test : (b : Bool) → IsSameNode row (cond b (unsettled row) row)
    by_test true = record { id = refl; kind = refl; size = refl; offset = refl }
    by_test false = same_row_itself row

kind_unsettled : (id : ℕ) (row : NodeRecord) → kind_of_record (node_changed id unsettled row) ≡ kind_of_record row
kind_unsettled id row = by_test (row.id == id)
  where
    by_test : (b : Bool) → kind_of_record (cond b (unsettled row) row) ≡ kind_of_record row
    by_test true = refl
    by_test false = refl

same_lost : (name : List ℕ) (row : NodeRecord) → IsSameNode row (lost_with name row)
same_lost name row = by_test (stands_over name row.filename)
  where
    by_test : (b : Bool) → IsSameNode row (cond b (unsettled row) row)
    by_test true = record { id = refl; kind = refl; size = refl; offset = refl }
    by_test false = same_row_itself row

kind_lost : (name : List ℕ) (row : NodeRecord) → kind_of_record (lost_with name row) ≡ kind_of_record row
kind_lost name row = by_test (stands_over name row.filename)
  where
    by_test : (b : Bool) → kind_of_record (cond b (unsettled row) row) ≡ kind_of_record row
    by_test true = refl
    by_test false = refl

same_writable : (id : ℕ) (row : NodeRecord) → IsSameNode row (node_changed id writable row)
same_writable id row = by_test (row.id == id)
  where
    by_test : (b : Bool) → IsSameNode row (cond b (writable row) row)
    by_test true = record { id = refl; kind = refl; size = refl; offset = refl }
    by_test false = same_row_itself row

same_read_only : (id : ℕ) (row : NodeRecord) → IsSameNode row (node_changed id kept_from_writes row)
same_read_only id row = by_test (row.id == id)
  where
    by_test : (b : Bool) → IsSameNode row (cond b (kept_from_writes row) row)
    by_test true = record { id = refl; kind = refl; size = refl; offset = refl }
    by_test false = same_row_itself row

same_settled : (id : ℕ) (row : NodeRecord) → IsSameNode row (node_changed id settled row)
same_settled id row = by_test (row.id == id)
  where
    by_test : (b : Bool) → IsSameNode row (cond b (settled row) row)
    by_test true = record { id = refl; kind = refl; size = refl; offset = refl }
    by_test false = same_row_itself row

kind_settled : (id : ℕ) (row : NodeRecord) → kind_of_record (node_changed id settled row) ≡ kind_of_record row
kind_settled id row = by_test (row.id == id)
  where
    by_test : (b : Bool) → kind_of_record (cond b (settled row) row) ≡ kind_of_record row
    by_test true = refl
    by_test false = refl

-- no job's edge is to a format node's file
job_other : (what : JobUse) → same_role (job_role what) File ≡ false
job_other CopyTarget = refl
job_other CommitTop = refl
job_other CommitBetween = refl
job_other CommitBase = refl
job_other StreamTop = refl
job_other StreamBelow = refl

-- the new edge of a table that stands, as it is derived
module _ (t now : RunTable) (new : Edge) (h : TableStands now) (derived : now.edges ≡ refreshed (kinds_of now.nodes) (with_edge new t.edges)) where
  new_like : HasLike now.edges new
  new_like =
      let like = refreshed-new (kinds_of now.nodes) (with_edge new t.edges) new (Contains-with_edge_new new t.edges) in
      record { edge = like.edge; there = subst (λ es. Contains es like.edge) (sym derived) like.there; same = like.same }

  new_role : (row : NodeRecord) → Contains now.nodes row → new.parent ≡ Node row.id → has_role row.kind new.role ≡ true
  new_role row there from =
      subst (λ role. has_role row.kind role ≡ true) new_like.same.role
      (h.roles new_like.edge row new_like.there there (new_like.same.parent ∙ from))

module _ (g : Graph) (small : (n : ℕ) → HasNode g n → n < 64) (t : RunTable) (there : (n : ℕ) → IsThere t n → HasNode g n) (h : TableStands t) where
  abbrev backed : ℕ → ℕ → RunTable
  backed over below = rewired t.nodes (with_edge (node_edge over Backing below) t.edges) t

  -- a node gets a backing node of its size
  backed_keeps : (over below : ℕ) → HaveOneSize t over below → TableStands (backed over below) → Keeps g t (backed over below)
  backed_keeps over below sizes stands =
      keeps_put g small t (backed over below) refl stands new refl
      (record {
        parent = there over (subst IsSome (sym sizes.found) refl);
        child = there below (subst IsSome (sym sizes.other_found) refl);
        table = table;
      })
      own refl
    where
      new : Edge
      new = node_edge over Backing below

      here : Contains t.nodes sizes.row × ((sizes.row.id == over) ≡ true)
      here = find-Some (λ r. r.id == over) t.nodes sizes.row sizes.found

      over_is : sizes.row.id ≡ over
      over_is = eqb-true sizes.row.id over here.1

      table : has_role (kind_at (kinds_of t.nodes) over).kind Backing ≡ true
      table =
          let less = small over (there over (subst IsSome (sym sizes.found) refl)) in
          subst (λ k. has_role k Backing ≡ true) (sym (ap (λ (k : NodeKind). k.kind) (kind_by t over h.apart less ∙ ap (kind_or no_kind) sizes.found)))
          (new_role t (backed over below) new stands refl sizes.row here.0 (ap Node (sym over_is)))

      own : IsSizedEdge t new
      own upper under upper_at under_at from to keeps =
          let parents : Node over ≡ Node upper.id = from in
          let ids : upper.id ≡ over = cc in
          let upper_found : node_by_id t over ≡ Some upper = subst (λ n. node_by_id t n ≡ Some upper) ids upper_at in
          let under_found : node_by_id t below ≡ Some under = subst (λ n. node_by_id t n ≡ Some under) (sym to) under_at in
          let over_found = sizes.found in
          let below_found = sizes.other_found in
          let upper_row : upper ≡ sizes.row = cc in
          let under_row : under ≡ sizes.other = cc in
          ap (λ r. r.size) under_row ∙ sym sizes.same ∙ ap (λ r. r.size) (sym upper_row)

  pub change_keeps_nodes : (c : Change) → keeps_nodes c ≡ true → TableSuits t c → ChangeFits t c → Keeps g t (changed t c)
  unfolding changed
  change_keeps_nodes change.Negotiate is suits fits = keeps_same g t (changed t change.Negotiate) refl refl
  change_keeps_nodes (change.KeepId id) is suits fits = keeps_same g t (changed t (change.KeepId id)) refl refl
  change_keeps_nodes (change.DropId id) is suits fits = keeps_same g t (changed t (change.DropId id)) refl refl
  change_keeps_nodes (change.MakeFile name size) is suits fits = keeps_same g t (changed t (change.MakeFile name size)) refl refl
  change_keeps_nodes (change.FormatFile node name size backing_file backing_fmt) is suits fits =
      let now : RunTable = changed t (change.FormatFile node name size backing_file backing_fmt) in
      keeps_still g t now (nodes_mapped t now (node_changed node unsettled) (same_unsettled node) refl)
      (kinds-mapped (node_changed node unsettled) (λ r. (same_unsettled node r).id) (kind_unsettled node) t.nodes (replicate 64 no_kind)) refl
  change_keeps_nodes (change.SpoilFile name) is suits fits =
      let now : RunTable = changed t (change.SpoilFile name) in
      keeps_still g t now (nodes_mapped t now (lost_with name) (same_lost name) refl)
      (kinds-mapped (lost_with name) (λ r. (same_lost name r).id) (kind_lost name) t.nodes (replicate 64 no_kind)) refl
  change_keeps_nodes (change.UseFile name) is suits fits = keeps_same g t (changed t (change.UseFile name)) refl refl
  change_keeps_nodes (change.AddFile row) is suits fits = absurd cc
  change_keeps_nodes (change.AddFormat row file backing) is suits fits = absurd cc
  change_keeps_nodes (change.AddFilter row child) is suits fits = absurd cc
  change_keeps_nodes (change.RemoveNode node) is suits fits = absurd cc
  change_keeps_nodes (change.Unsettle id) is suits fits =
      let now : RunTable = changed t (change.Unsettle id) in
      keeps_still g t now (nodes_mapped t now (node_changed id unsettled) (same_unsettled id) refl)
      (kinds-mapped (node_changed id unsettled) (λ r. (same_unsettled id r).id) (kind_unsettled id) t.nodes (replicate 64 no_kind)) refl
  change_keeps_nodes (change.MakeWritable id) is suits fits =
      let now : RunTable = changed t (change.MakeWritable id) in
      keeps_access g small t now (nodes_mapped t now (node_changed id writable) (same_writable id) refl) h.apart (table_keeps t (change.MakeWritable id) suits h) refl
  change_keeps_nodes (change.PutFilter row node) is suits fits = absurd cc
  change_keeps_nodes (change.UseNode slot what node) is suits fits =
      keeps_put g small t (changed t (change.UseNode slot what node)) refl (table_keeps t (change.UseNode slot what node) suits h)
      (job_edge slot what node) refl
      (record {
        parent = fits;
        child = there node (subst IsSome (sym suits.there) refl);
        table = record { job = slot; what = what; is = refl };
      })
      (λ over under over_at under_at from to keeps. absurd cc) (job_other what)
  change_keeps_nodes (change.StartJob row) is suits fits = keeps_same g t (changed t (change.StartJob row)) refl refl
  change_keeps_nodes (change.AskJob number asked) is suits fits = keeps_same g t (changed t (change.AskJob number asked)) refl refl
  change_keeps_nodes (change.ReadyJob number) is suits fits = keeps_same g t (changed t (change.ReadyJob number)) refl refl
  change_keeps_nodes (change.EndJob number slot drops) is suits fits =
      keeps_without g small t (changed t (change.EndJob number slot drops)) refl
      (table_keeps t (change.EndJob number slot drops) suits h) (Job slot) (λ n same. cc) refl
  change_keeps_nodes (change.PullFilter filter) is suits fits = absurd cc
  change_keeps_nodes (change.Rebase node None) is suits fits =
      keeps_unbacked g small t (changed t (change.Rebase node None)) refl (table_keeps t (change.Rebase node None) suits h) node refl
  change_keeps_nodes (change.Rebase node (Some base)) is suits fits =
      backed_keeps node base suits.sizes (table_keeps t (change.Rebase node (Some base)) suits h)
  change_keeps_nodes (change.Settle node disk) is suits fits =
      let now : RunTable = changed t (change.Settle node disk) in
      keeps_still g t now (nodes_mapped t now (node_changed node settled) (same_settled node) refl)
      (kinds-mapped (node_changed node settled) (λ r. (same_settled node r).id) (kind_settled node) t.nodes (replicate 64 no_kind)) refl
  change_keeps_nodes (change.MakeReadOnly id) is suits fits =
      let now : RunTable = changed t (change.MakeReadOnly id) in
      keeps_access g small t now (nodes_mapped t now (node_changed id kept_from_writes) (same_read_only id) refl) h.apart (table_keeps t (change.MakeReadOnly id) suits h) refl
  change_keeps_nodes (change.AddDevice device node) is suits fits =
      let now : RunTable = changed t (change.AddDevice device node) in
      keeps_put g small t now refl (table_keeps t (change.AddDevice device node) suits h) (device_edge device node) refl
      (record {
        parent = fits;
        child = there node suits.there;
        table = record { guest = device.number; writes = not device.read_only; share_rw = device.share_rw; is = refl };
      })
      (λ over under over_at under_at from to keeps. absurd cc) refl
  change_keeps_nodes (change.RemoveDevice number) is suits fits =
      keeps_without g small t (changed t (change.RemoveDevice number)) refl (table_keeps t (change.RemoveDevice number) suits h) (Guest number)
      (λ n same. cc) refl
  change_keeps_nodes (change.Attach overlay node) is suits fits =
      backed_keeps overlay node suits.sizes (table_keeps t (change.Attach overlay node) suits h)
  change_keeps_nodes (change.Move from to but) is suits fits =
      keeps_moved g small t (changed t (change.Move from to but)) refl there h (table_keeps t (change.Move from to but) suits h) from to but suits.sizes suits.plain.free
      refl
  change_keeps_nodes (change.AddBitmap row) is suits fits = keeps_same g t (changed t (change.AddBitmap row)) refl refl
  change_keeps_nodes (change.RemoveBitmap node name) is suits fits = keeps_same g t (changed t (change.RemoveBitmap node name)) refl refl
  change_keeps_nodes (change.TurnBitmap node name on) is suits fits = keeps_same g t (changed t (change.TurnBitmap node name on)) refl refl
  change_keeps_nodes (change.ClearBitmap node name) is suits fits = keeps_same g t (changed t (change.ClearBitmap node name)) refl refl
  change_keeps_nodes (change.MergeBitmap node name source_node source) is suits fits =
      keeps_same g t (changed t (change.MergeBitmap node name source_node source)) refl refl

-- ---- changes in turn

pub changes_keep_nodes : (g : Graph) → ((n : ℕ) → HasNode g n → n < 64) → (changes : List Change) (t : RunTable) → ((n : ℕ) → IsThere t n → HasNode g n)
    → TableStands t → AllKeepNodes changes → AllTableSuit t changes → AllChangesFit t changes → Keeps g t (all_changed t changes)
changes_keep_nodes g small [] t there h keep suits fits = keeps_same g t t refl refl
changes_keep_nodes g small (c ∷ changes) t there h keep suits fits =
    let now : RunTable = changed t c in
    let first = change_keeps_nodes g small t there h c keep.0 suits.0 fits.0 in
    keeps_then g t now (all_changed now changes) first
    (changes_keep_nodes g small changes now (λ n is. there n (was_there t now first.nodes n is)) (table_keeps t c suits.0 h) keep.1 suits.1 fits.1)
