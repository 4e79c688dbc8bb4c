-- Nodes stay bare behind changes that put no node over them by a file or as a filter.
use Rattle.std.proofs.Common.{◌≡◌, ◌≢◌, ℕ, List, map, refl, sym, ◌∙◌, ap, subst, inl, inr, Bool, Option, Some, None}
use Rattle.std.specs.Prelude.{not}
use Rattle.std.specs.List.{Contains, find, filter}
use Rattle.blk_graph.specs.declared.edge.Edge.{Edge}
use Rattle.blk_graph.specs.declared.edge.Parent.{Parent}
use Rattle.blk_graph.specs.declared.edge.Parent.TheVariants.{Node, Guest, Job}
use Rattle.blk_graph.specs.declared.edge.Role.TheVariants.{File, Backing, Filtered, Drive}
use Rattle.blk_graph.specs.declared.kind.JobUse.{JobUse}
use Rattle.blk_graph.specs.declared.kind.JobUse.TheVariants.{CopyTarget, CommitTop, CommitBetween, CommitBase, StreamTop, StreamBelow}
use Rattle.blk_graph.specs.declared.kind.NodeKind.{NodeKind}
use Rattle.blk_graph.specs.Edges.{same_parent, same_role}
use Rattle.blk_graph.specs.Edits.{with_edge, is_edge, is_filters, but_filters, filter_edge, with_moved, replaced, without_filter, without_parent}
use Rattle.blk_graph.specs.Permissions.{idle_uses, job_role, node_edge, job_edge}
use Rattle.blk_graph.specs.Refreshed.{refreshed}
use Rattle.blk_graph.proofs.CycleLemmas.{and-right}
use Rattle.blk_graph.proofs.EditLemmas.{Contains-with_edge, Contains-with_moved, moved-cases, replaced-cases}
use Rattle.blk_graph.proofs.Members.{Contains-filter, Contains-map, find-Some}
use Rattle.blk_graph.proofs.RoleLemmas.{same_role-true}
use Rattle.qmp_rules.specs.declared.change.Change.{Change}
use Rattle.qmp_rules.specs.declared.change.Change.TheVariants as change
use Rattle.qmp_rules.specs.Changes.{changed, with_backing, with_backing_edge, device_edge, filtered_edges}
use Rattle.qmp_rules.specs.Table.{RunTable, kinds_of}
use Rattle.flat_machine.proofs.Tables.{pushed-cases, refreshed-old}
use Rattle.job_tables.specs.Ends.{IsBare}

-- ---- edges

-- neither to a file nor a filter's
abbrev pub IsOther : Edge → Type 0
IsOther e = (e.role ≢ File) × (e.role ≢ Filtered)

abbrev AreBare : List Edge → ℕ → Type 0
AreBare edges id = (e : Edge) → Contains edges e → e.child ≡ id → IsOther e

as_role : (a b : Edge) → a.role ≡ b.role → IsOther a → IsOther b
as_role a b same o = (λ is. o.0 (same ∙ is), λ is. o.1 (same ∙ is))

bare_derived : (kinds : List NodeKind) (before : List Edge) (id : ℕ) → AreBare before id → AreBare (refreshed kinds before) id
bare_derived kinds before id h e there at =
    let x = refreshed-old kinds before e there in
    as_role x.edge e x.same.role (h x.edge x.there (x.same.child ∙ at))

bare_with : (new : Edge) (edges : List Edge) (id : ℕ) → (new.child ≡ id → IsOther new) → AreBare edges id → AreBare (with_edge new edges) id
bare_with new edges id own h e there at = elim (Contains-with_edge new edges e there) [
  | inl is ↦ subst IsOther (sym is) (own (ap (λ (x : Edge). x.child) (sym is) ∙ at))
  | inr old ↦ h e old at
]

bare_fewer : (test : Edge → Bool) (edges : List Edge) (id : ℕ) → AreBare edges id → AreBare (filter test edges) id
bare_fewer test edges id h e there at = h e (Contains-filter test edges e there).0 at

-- a backing edge may lead there
backs : (over below : ℕ) → IsOther (node_edge over Backing below)
backs over below = (λ is. (let bad : Backing ≡ File = is in cc bad), λ is. (let bad : Backing ≡ Filtered = is in cc bad))

bare_backed : (node : ℕ) (backing : Option ℕ) (edges : List Edge) (id : ℕ) → AreBare edges id → AreBare (with_backing_edge node backing edges) id
bare_backed node None edges id h = h
bare_backed node (Some backing) edges id h = bare_with (node_edge node Backing backing) edges id (λ same. backs node backing) h

bare_rebased : (node : ℕ) (backing : Option ℕ) (edges : List Edge) (id : ℕ) → AreBare edges id → AreBare (with_backing node backing edges) id
bare_rebased node None edges id h = bare_fewer (λ x. not (is_edge (Node node) Backing x)) edges id h
bare_rebased node (Some backing) edges id h = bare_with (node_edge node Backing backing) edges id (λ same. backs node backing) h

bare_moved : (from to : ℕ) (edges : List Edge) (id : ℕ) → to ≢ id → AreBare edges id → AreBare (with_moved from to edges) id
bare_moved from to edges id apart h e there at =
    let r = Contains-with_moved from to edges e there in
    elim (moved-cases from to r.0) [
      | inl m ↦ absurd (apart (sym (ap (λ (x : Edge). x.child) (r.2 ∙ m.1)) ∙ at))
      | inr m ↦
          let same : r.0 ≡ e = sym (r.2 ∙ m.1) in
          as_role r.0 e (ap (λ (x : Edge). x.role) same) (h r.0 r.1 (ap (λ (x : Edge). x.child) same ∙ at))
    ]

bare_replaced : (from to : ℕ) (but : Option Parent) (edges : List Edge) (id : ℕ) → to ≢ id → AreBare edges id → AreBare (map (replaced from to but) edges) id
bare_replaced from to but edges id apart h e there at =
    let r = Contains-map (replaced from to but) edges e there in
    elim (replaced-cases from to but r.0) [
      | inl led ↦ absurd (apart (sym (ap (λ (x : Edge). x.child) r.2 ∙ led) ∙ at))
      | inr as_was ↦
          let same : r.0 ≡ e = sym (r.2 ∙ as_was) in
          as_role r.0 e (ap (λ (x : Edge). x.role) same) (h r.0 r.1 (ap (λ (x : Edge). x.child) same ∙ at))
    ]

bare_filtered : (filter node : ℕ) (edges : List Edge) (id : ℕ) → filter ≢ id → node ≢ id → AreBare edges id → AreBare (filtered_edges filter node edges) id
bare_filtered filter node edges id off apart h e there at =
    elim (pushed-cases (with_moved node filter edges) (filter_edge filter node idle_uses.perm idle_uses.shared) e there) [
      | inl old ↦ bare_moved node filter edges id off h e old at
      | inr new ↦ absurd (apart (ap (λ (x : Edge). x.child) (sym new) ∙ at))
    ]

-- a filter that goes was not over a bare node
bare_pulled : (filter : ℕ) (edges : List Edge) (id : ℕ) → AreBare edges id → AreBare (without_filter filter edges) id
bare_pulled filter edges id h e there at = by_found (find (is_filters filter) edges) refl there
  where
    by_found : (found : Option Edge) → find (is_filters filter) edges ≡ found
        → Contains (elim found as (λ _. List Edge) [ None ↦ edges | Some own ↦ with_moved filter own.child (but_filters filter edges) ]) e → IsOther e
    by_found None is in_all = h e in_all at
    by_found (Some own) is in_moved =
        let own_at = find-Some (is_filters filter) edges own is in
        let role : own.role ≡ Filtered = same_role-true own.role Filtered (and-right (same_parent own.parent (Node filter)) (same_role own.role Filtered) own_at.1) in
        bare_moved filter own.child (but_filters filter edges) id (λ same. (h own own_at.0 same).1 role)
        (bare_fewer (λ y. not (is_filters filter y)) edges id h) e in_moved at

job_other : (slot : ℕ) (what : JobUse) (node : ℕ) → IsOther (job_edge slot what node)
job_other slot what node = by_use what
  where
    by_use : (what : JobUse) → (job_role what ≢ File) × (job_role what ≢ Filtered)
    by_use CopyTarget = (λ is. cc, λ is. cc)
    by_use CommitTop = (λ is. cc, λ is. cc)
    by_use CommitBetween = (λ is. cc, λ is. cc)
    by_use CommitBase = (λ is. cc, λ is. cc)
    by_use StreamTop = (λ is. cc, λ is. cc)
    by_use StreamBelow = (λ is. cc, λ is. cc)

drives : Drive ≢ File
drives is = cc

drives_none : Drive ≢ Filtered
drives_none is = cc

-- ---- changes

-- the change puts nothing over the node by a file or as a filter
abbrev pub LeavesBare : Change → ℕ → Type 0
LeavesBare (change.AddFormat new file backing) id = file ≢ id
LeavesBare (change.AddFilter new child) id = child ≢ id
LeavesBare (change.PutFilter new node) id = (new.id ≢ id) × (node ≢ id)
LeavesBare (change.Move from to but) id = to ≢ id
LeavesBare c id = Unit {0}

pub bare_kept : (t : RunTable) (c : Change) (id : ℕ) → LeavesBare c id → IsBare t id → IsBare (changed t c) id
unfolding changed
bare_kept t (change.AddFile new) id apart h = bare_derived (kinds_of (changed t (change.AddFile new)).nodes) t.edges id h
bare_kept t (change.AddFormat new file backing) id apart h =
    bare_derived (kinds_of (changed t (change.AddFormat new file backing)).nodes) (with_backing_edge new.id backing (with_edge (node_edge new.id File file) t.edges)) id
    (bare_backed new.id backing (with_edge (node_edge new.id File file) t.edges) id
    (bare_with (node_edge new.id File file) t.edges id (λ same. absurd (apart same)) h))
bare_kept t (change.AddFilter new child) id apart h =
    bare_derived (kinds_of (changed t (change.AddFilter new child)).nodes) (with_edge (node_edge new.id File child) t.edges) id
    (bare_with (node_edge new.id File child) t.edges id (λ same. absurd (apart same)) h)
bare_kept t (change.RemoveNode node) id apart h =
    bare_derived (kinds_of (changed t (change.RemoveNode node)).nodes) (without_parent (Node node) t.edges) id
    (bare_fewer (λ y. not (same_parent y.parent (Node node))) t.edges id h)
bare_kept t (change.MakeWritable node) id apart h = bare_derived (kinds_of (changed t (change.MakeWritable node)).nodes) t.edges id h
bare_kept t (change.MakeReadOnly node) id apart h = bare_derived (kinds_of (changed t (change.MakeReadOnly node)).nodes) t.edges id h
bare_kept t (change.PutFilter new node) id apart h =
    bare_derived (kinds_of (changed t (change.PutFilter new node)).nodes) (filtered_edges new.id node t.edges) id
    (bare_filtered new.id node t.edges id apart.0 apart.1 h)
bare_kept t (change.UseNode slot what node) id apart h =
    bare_derived (kinds_of t.nodes) (with_edge (job_edge slot what node) t.edges) id (bare_with (job_edge slot what node) t.edges id (λ same. job_other slot what node) h)
bare_kept t (change.EndJob number slot drops) id apart h =
    bare_derived (kinds_of t.nodes) (without_parent (Job slot) t.edges) id (bare_fewer (λ y. not (same_parent y.parent (Job slot))) t.edges id h)
bare_kept t (change.PullFilter filter) id apart h =
    bare_derived (kinds_of (changed t (change.PullFilter filter)).nodes) (without_filter filter t.edges) id (bare_pulled filter t.edges id h)
bare_kept t (change.Rebase node backing) id apart h =
    bare_derived (kinds_of t.nodes) (with_backing node backing t.edges) id (bare_rebased node backing t.edges id h)
bare_kept t (change.AddDevice device node) id apart h =
    bare_derived (kinds_of t.nodes) (with_edge (device_edge device node) t.edges) id (bare_with (device_edge device node) t.edges id (λ same. (drives, drives_none)) h)
bare_kept t (change.RemoveDevice number) id apart h =
    bare_derived (kinds_of t.nodes) (without_parent (Guest number) t.edges) id (bare_fewer (λ y. not (same_parent y.parent (Guest number))) t.edges id h)
bare_kept t (change.Attach overlay node) id apart h =
    bare_derived (kinds_of t.nodes) (with_edge (node_edge overlay Backing node) t.edges) id (bare_with (node_edge overlay Backing node) t.edges id (λ same. backs overlay node) h)
bare_kept t (change.Move from to but) id apart h =
    bare_derived (kinds_of t.nodes) (map (replaced from to (Some (Node but))) t.edges) id (bare_replaced from to (Some (Node but)) t.edges id apart h)
bare_kept t c id apart h = h
