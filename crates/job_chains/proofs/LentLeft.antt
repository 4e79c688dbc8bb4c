-- No disk is left in the file of a backing node behind a change that makes no other node one.
use Rattle.std.proofs.Common.{◌≡◌, ◌≢◌, ℕ, List, map, refl, sym, ◌∙◌, ap, subst, inl, inr, Bool, Option, Some, None}
use Rattle.std.specs.Prelude.{not}
use Rattle.std.specs.Option.{option_map}
use Rattle.std.specs.List.{Contains, find, filter}
use Rattle.std.proofs.lemmas.List.Elements.{All-contains, All-contains_itself, All-weaker}
use Rattle.blk_graph.specs.declared.edge.Edge.{Edge}
use Rattle.blk_graph.specs.declared.edge.Parent.{Parent}
use Rattle.blk_graph.specs.declared.edge.Parent.TheVariants.{Node, Guest, Job}
use Rattle.blk_graph.specs.declared.edge.Role.TheVariants.{File, Backing, Filtered, Drive}
use Rattle.blk_graph.specs.declared.kind.JobUse.{JobUse}
use Rattle.blk_graph.specs.declared.kind.JobUse.TheVariants.{CopyTarget, CommitTop, CommitBetween, CommitBase, StreamTop, StreamBelow}
use Rattle.blk_graph.specs.declared.kind.NodeKind.{NodeKind}
use Rattle.blk_graph.specs.Edges.{same_parent}
use Rattle.blk_graph.specs.Edits.{with_edge, is_edge, is_filters, but_filters, filter_edge, with_moved, replaced, without_filter, without_parent}
use Rattle.blk_graph.specs.Permissions.{idle_uses, job_role, node_edge, job_edge}
use Rattle.blk_graph.specs.Refreshed.{refreshed}
use Rattle.blk_graph.proofs.EditLemmas.{Contains-with_edge, Contains-with_moved, moved-cases, replaced-cases}
use Rattle.blk_graph.proofs.Members.{Contains-filter, Contains-map}
use Rattle.qmp_rules.specs.declared.change.Change.{Change}
use Rattle.qmp_rules.specs.declared.change.Change.TheVariants as change
use Rattle.qmp_rules.specs.declared.rows.NodeRecord.{NodeRecord}
use Rattle.qmp_rules.specs.Changes.{changed, with_backing, with_backing_edge, device_edge, filtered_edges}
use Rattle.qmp_rules.specs.Table.{RunTable, child, kinds_of}
use Rattle.flat_machine.specs.State.{State, Left}
use Rattle.flat_machine.specs.Changed.{stepped}
use Rattle.flat_machine.specs.Suiting.{IsAlone, NoneLeftIn}
use Rattle.flat_machine.specs.Wiring.{StandsFor}
use Rattle.flat_machine.proofs.Tables.{pushed-cases, refreshed-old}
use Rattle.job_tables.proofs.RunRows.{IsNotNew, was_row, id_by, file_by}
use Rattle.job_tables.proofs.TargetFiles.{LeavesMore, left_before}
use Rattle.job_chains.specs.Lent.{BackedAreUnleft, BacksUnleft}

-- ---- files in which no disk is left

-- none of the disks that the change leaves is left in the file of the node
abbrev pub LeavesNoneIn : State → Change → ℕ → Type 0
LeavesNoneIn s c node =
    (l : Left) → LeavesMore s c l → (name : List ℕ) (row : NodeRecord) → StandsFor s.table name row → row.id ≡ node → l.file ≢ name

pub unleft_kept : (s : State) (c : Change) (node : ℕ) → IsNotNew c node → LeavesNoneIn s c node → NoneLeftIn s node → NoneLeftIn (stepped s c) node
unleft_kept s c node new more none name row of id =
    let w = was_row s.table c row (subst (IsNotNew c) (sym id) new) of.there in
    let before : StandsFor s.table name w.row = record {
      there = w.there;
      filename = sym (file_by c w.row) ∙ ap (λ (r : NodeRecord). r.filename) (sym w.is) ∙ of.filename;
    } in
    let at : w.row.id ≡ node = sym (id_by c w.row) ∙ ap (λ (r : NodeRecord). r.id) (sym w.is) ∙ id in
    All-weaker (Contains (stepped s c).left) (λ (l : Left). l.file ≢ name)
    (λ l there same. elim (left_before s c l there) [
      | inl old ↦ All-contains (λ (l : Left). l.file ≢ name) s.left l (none name w.row before at) old same
      | inr new ↦ more l new name w.row before at same
    ]) (stepped s c).left (All-contains_itself (stepped s c).left)

-- ---- edges to backing nodes

abbrev AllBacked : (ℕ → Type 0) → List Edge → Type 0
AllBacked P edges = (e : Edge) → Contains edges e → e.role ≡ Backing → P e.child

module _ (P : ℕ → Type 0) where
  backed_derived : (kinds : List NodeKind) (before : List Edge) → AllBacked P before → AllBacked P (refreshed kinds before)
  backed_derived kinds before h e there backs =
      let x = refreshed-old kinds before e there in
      subst P x.same.child (h x.edge x.there (x.same.role ∙ backs))

  backed_with : (new : Edge) (edges : List Edge) → (new.role ≡ Backing → P new.child) → AllBacked P edges → AllBacked P (with_edge new edges)
  backed_with new edges own h e there backs = elim (Contains-with_edge new edges e there) [
    | inl is ↦ subst (λ (x : Edge). P x.child) (sym is) (own (ap (λ (x : Edge). x.role) (sym is) ∙ backs))
    | inr old ↦ h e old backs
  ]

  backed_fewer : (test : Edge → Bool) (edges : List Edge) → AllBacked P edges → AllBacked P (filter test edges)
  backed_fewer test edges h e there backs = h e (Contains-filter test edges e there).0 backs

  backed_backing : (node : ℕ) (backing : Option ℕ) (edges : List Edge) → ((below : ℕ) → backing ≡ Some below → P below) → AllBacked P edges
      → AllBacked P (with_backing_edge node backing edges)
  backed_backing node None edges own h = h
  backed_backing node (Some backing) edges own h = backed_with (node_edge node Backing backing) edges (λ is. own backing refl) h

  backed_rebased : (node : ℕ) (backing : Option ℕ) (edges : List Edge) → ((below : ℕ) → backing ≡ Some below → P below) → AllBacked P edges
      → AllBacked P (with_backing node backing edges)
  backed_rebased node None edges own h = backed_fewer (λ x. not (is_edge (Node node) Backing x)) edges h
  backed_rebased node (Some backing) edges own h = backed_with (node_edge node Backing backing) edges (λ is. own backing refl) h

  backed_moved : (from to : ℕ) (edges : List Edge) → P to → AllBacked P edges → AllBacked P (with_moved from to edges)
  backed_moved from to edges own h e there backs =
      let r = Contains-with_moved from to edges e there in
      elim (moved-cases from to r.0) [
        | inl m ↦ subst P (sym (ap (λ (x : Edge). x.child) (r.2 ∙ m.1))) own
        | inr m ↦
            let same : r.0 ≡ e = sym (r.2 ∙ m.1) in
            subst (λ (x : Edge). P x.child) same (h r.0 r.1 (ap (λ (x : Edge). x.role) same ∙ backs))
      ]

  backed_replaced : (from to : ℕ) (but : Option Parent) (edges : List Edge) → P to → AllBacked P edges → AllBacked P (map (replaced from to but) edges)
  backed_replaced from to but edges own h e there backs =
      let r = Contains-map (replaced from to but) edges e there in
      elim (replaced-cases from to but r.0) [
        | inl led ↦ subst P (sym (ap (λ (x : Edge). x.child) r.2 ∙ led)) own
        | inr as_was ↦
            let same : r.0 ≡ e = sym (r.2 ∙ as_was) in
            subst (λ (x : Edge). P x.child) same (h r.0 r.1 (ap (λ (x : Edge). x.role) same ∙ backs))
      ]

  backed_filtered : (filter node : ℕ) (edges : List Edge) → P filter → AllBacked P edges → AllBacked P (filtered_edges filter node edges)
  backed_filtered filter node edges own h e there backs =
      elim (pushed-cases (with_moved node filter edges) (filter_edge filter node idle_uses.perm idle_uses.shared) e there) [
        | inl old ↦ backed_moved node filter edges own h e old backs
        | inr new ↦ absurd (let bad : Filtered ≡ Backing = ap (λ (x : Edge). x.role) (sym new) ∙ backs in cc bad)
      ]

  -- what had a filter that goes as its backing node has what that is over
  backed_pulled : (t : RunTable) (filter : ℕ) → ((below : ℕ) → child t filter Filtered ≡ Some below → P below) → AllBacked P t.edges
      → AllBacked P (without_filter filter t.edges)
  backed_pulled t filter own h e there backs = by_found (find (is_filters filter) t.edges) refl there
    where
      by_found : (found : Option Edge) → find (is_filters filter) t.edges ≡ found
          → Contains (elim found as (λ _. List Edge) [ None ↦ t.edges | Some x ↦ with_moved filter x.child (but_filters filter t.edges) ]) e → P e.child
      by_found None is in_all = h e in_all backs
      by_found (Some x) is in_moved =
          let over : child t filter Filtered ≡ Some x.child = ap (option_map (λ (y : Edge). y.child)) is in
          backed_moved filter x.child (but_filters filter t.edges) (own x.child over)
          (backed_fewer (λ y. not (is_filters filter y)) t.edges h) e in_moved backs

job_no_backing : (what : JobUse) → job_role what ≢ Backing
job_no_backing CopyTarget is = cc
job_no_backing CommitTop is = cc
job_no_backing CommitBetween is = cc
job_no_backing CommitBase is = cc
job_no_backing StreamTop is = cc
job_no_backing StreamBelow is = cc

drive_no_backing : Drive ≢ Backing
drive_no_backing is = cc

file_no_backing : File ≢ Backing
file_no_backing is = cc

-- ---- one change

-- what the change needs so that none is left in the files of backing nodes
abbrev pub KeepsUnleft : State → Change → Type 0
KeepsUnleft s (change.AddFile new) = IsAlone s.table new.id
KeepsUnleft s (change.AddFormat new file backing) =
    IsAlone s.table new.id × ((node : ℕ) → backing ≡ Some node → (new.id ≢ node) × NoneLeftIn s node)
KeepsUnleft s (change.AddFilter new child) = IsAlone s.table new.id
KeepsUnleft s (change.RemoveNode node) =
    (e : Edge) → Contains s.table.edges e → e.role ≡ Backing → LeavesNoneIn s (change.RemoveNode node) e.child
KeepsUnleft s (change.PutFilter new node) = IsAlone s.table new.id × NoneLeftIn (stepped s (change.PutFilter new node)) new.id
KeepsUnleft s c = BacksUnleft s c

module _ (s : State) (g : BackedAreUnleft s) where
  abbrev After : Change → ℕ → Type 0
  After c node = NoneLeftIn (stepped s c) node

  -- the backing nodes that there were
  old_backed : (c : Change) → ((e : Edge) → Contains s.table.edges e → e.role ≡ Backing → IsNotNew c e.child × LeavesNoneIn s c e.child)
      → AllBacked (λ node. NoneLeftIn (stepped s c) node) s.table.edges
  old_backed c keeps e there backs = let k = keeps e there backs in unleft_kept s c e.child k.0 k.1 (g e there backs)

  pub change_unleft : (c : Change) → KeepsUnleft s c → BackedAreUnleft (stepped s c)
  unfolding changed
  change_unleft (change.AddFile new) k =
      backed_derived (After (change.AddFile new)) (kinds_of (changed s.table (change.AddFile new)).nodes) s.table.edges
      (old_backed (change.AddFile new) (λ e there backs. (λ same. k e there (sym same), λ l more. absurd more)))
  change_unleft (change.AddFormat new file backing) k =
      let c : Change = change.AddFormat new file backing in
      backed_derived (After c) (kinds_of (changed s.table c).nodes) (with_backing_edge new.id backing (with_edge (node_edge new.id File file) s.table.edges))
      (backed_backing (After c) new.id backing (with_edge (node_edge new.id File file) s.table.edges)
      (λ node is. unleft_kept s c node (k.1 node is).0 (λ l more. absurd more) (k.1 node is).1)
      (backed_with (After c) (node_edge new.id File file) s.table.edges (λ is. absurd (file_no_backing is))
      (old_backed c (λ e there backs. (λ same. k.0 e there (sym same), λ l more. absurd more)))))
  change_unleft (change.AddFilter new child) k =
      let c : Change = change.AddFilter new child in
      backed_derived (After c) (kinds_of (changed s.table c).nodes) (with_edge (node_edge new.id File child) s.table.edges)
      (backed_with (After c) (node_edge new.id File child) s.table.edges (λ is. absurd (file_no_backing is))
      (old_backed c (λ e there backs. (λ same. k e there (sym same), λ l more. absurd more))))
  change_unleft (change.RemoveNode node) k =
      let c : Change = change.RemoveNode node in
      backed_derived (After c) (kinds_of (changed s.table c).nodes) (without_parent (Node node) s.table.edges)
      (backed_fewer (After c) (λ y. not (same_parent y.parent (Node node))) s.table.edges (old_backed c (λ e there backs. (tt, k e there backs))))
  change_unleft (change.PutFilter new node) k =
      let c : Change = change.PutFilter new node in
      backed_derived (After c) (kinds_of (changed s.table c).nodes) (filtered_edges new.id node s.table.edges)
      (backed_filtered (After c) new.id node s.table.edges k.1
      (old_backed c (λ e there backs. (λ same. k.0 e there (sym same), λ l more. absurd more))))
  change_unleft (change.MakeWritable node) k =
      let c : Change = change.MakeWritable node in
      backed_derived (After c) (kinds_of (changed s.table c).nodes) s.table.edges (old_backed c (λ e there backs. (tt, λ l more. absurd more)))
  change_unleft (change.MakeReadOnly node) k =
      let c : Change = change.MakeReadOnly node in
      backed_derived (After c) (kinds_of (changed s.table c).nodes) s.table.edges (old_backed c (λ e there backs. (tt, λ l more. absurd more)))
  change_unleft (change.UseNode slot what node) k =
      let c : Change = change.UseNode slot what node in
      backed_derived (After c) (kinds_of s.table.nodes) (with_edge (job_edge slot what node) s.table.edges)
      (backed_with (After c) (job_edge slot what node) s.table.edges (λ is. absurd (job_no_backing what is))
      (old_backed c (λ e there backs. (tt, λ l more. absurd more))))
  change_unleft (change.EndJob number slot drops) k =
      let c : Change = change.EndJob number slot drops in
      backed_derived (After c) (kinds_of s.table.nodes) (without_parent (Job slot) s.table.edges)
      (backed_fewer (After c) (λ y. not (same_parent y.parent (Job slot))) s.table.edges (old_backed c (λ e there backs. (tt, λ l more. absurd more))))
  change_unleft (change.PullFilter filter) k =
      let c : Change = change.PullFilter filter in
      backed_derived (After c) (kinds_of (changed s.table c).nodes) (without_filter filter s.table.edges)
      (backed_pulled (After c) s.table filter (λ below is. unleft_kept s c below tt (λ l more. absurd more) (k below is))
      (old_backed c (λ e there backs. (tt, λ l more. absurd more))))
  change_unleft (change.Rebase node backing) k =
      let c : Change = change.Rebase node backing in
      backed_derived (After c) (kinds_of s.table.nodes) (with_backing node backing s.table.edges)
      (backed_rebased (After c) node backing s.table.edges (λ below is. unleft_kept s c below tt (λ l more. absurd more) (k below is))
      (old_backed c (λ e there backs. (tt, λ l more. absurd more))))
  change_unleft (change.AddDevice device node) k =
      let c : Change = change.AddDevice device node in
      backed_derived (After c) (kinds_of s.table.nodes) (with_edge (device_edge device node) s.table.edges)
      (backed_with (After c) (device_edge device node) s.table.edges (λ is. absurd (drive_no_backing is))
      (old_backed c (λ e there backs. (tt, λ l more. absurd more))))
  change_unleft (change.RemoveDevice number) k =
      let c : Change = change.RemoveDevice number in
      backed_derived (After c) (kinds_of s.table.nodes) (without_parent (Guest number) s.table.edges)
      (backed_fewer (After c) (λ y. not (same_parent y.parent (Guest number))) s.table.edges (old_backed c (λ e there backs. (tt, λ l more. absurd more))))
  change_unleft (change.Attach overlay node) k =
      let c : Change = change.Attach overlay node in
      backed_derived (After c) (kinds_of s.table.nodes) (with_edge (node_edge overlay Backing node) s.table.edges)
      (backed_with (After c) (node_edge overlay Backing node) s.table.edges (λ is. unleft_kept s c node tt (λ l more. absurd more) k)
      (old_backed c (λ e there backs. (tt, λ l more. absurd more))))
  change_unleft (change.Move from to but) k =
      let c : Change = change.Move from to but in
      backed_derived (After c) (kinds_of s.table.nodes) (map (replaced from to (Some (Node but))) s.table.edges)
      (backed_replaced (After c) from to (Some (Node but)) s.table.edges (unleft_kept s c to tt (λ l more. absurd more) k)
      (old_backed c (λ e there backs. (tt, λ l more. absurd more))))
  change_unleft c k = old_backed c (λ e there backs. (tt, λ l more. absurd more))
