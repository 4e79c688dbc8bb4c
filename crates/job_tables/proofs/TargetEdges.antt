-- What leads to a node behind a change led there before, and nodes keep their sizes.
use Rattle.std.proofs.Common.{◌≡◌, ◌≢◌, ℕ, List, [], ◌∷◌, ◌++◌, map, refl, sym, ◌∙◌, ap, subst, inl, inr, Bool, true, false, cond, Option, Some, None}
use Rattle.std.specs.Prelude.{◌==◌, not}
use Rattle.std.specs.Option.{option_map}
use Rattle.std.specs.List.{Contains, find}
use Rattle.blk_graph.specs.declared.edge.Edge.{Edge}
use Rattle.blk_graph.specs.declared.edge.Parent.{Parent}
use Rattle.blk_graph.specs.declared.edge.Parent.TheVariants.{Node, Guest, Job}
use Rattle.blk_graph.specs.declared.edge.Role.TheVariants.{File, Backing}
use Rattle.blk_graph.specs.declared.kind.NodeKind.{NodeKind}
use Rattle.blk_graph.specs.Edges.{same_parent}
use Rattle.blk_graph.specs.Edits.{with_edge, is_edge, is_filters, but_filters, filter_edge, with_moved, replaced, without_filter, without_parent}
use Rattle.blk_graph.specs.Permissions.{idle_uses, node_edge, job_edge}
use Rattle.blk_graph.specs.Refreshed.{refreshed}
use Rattle.blk_graph.proofs.CycleLemmas.{and-left, same_parent-true}
use Rattle.blk_graph.proofs.EditLemmas.{Contains-with_edge, Contains-with_moved, moved-cases, replaced-cases}
use Rattle.blk_graph.proofs.Members.{Contains-filter, Contains-map, find-Some}
use Rattle.qmp_rules.specs.declared.change.Change.{Change}
use Rattle.qmp_rules.specs.declared.change.Change.TheVariants as change
use Rattle.qmp_rules.specs.declared.rows.NodeRecord.{NodeRecord}
use Rattle.qmp_rules.specs.Changes.{changed, node_changed, unsettled, writable, settled, kept_from_writes, stands_over, lost_with, with_backing, with_backing_edge, device_edge, filtered_edges}
use Rattle.qmp_rules.specs.Table.{RunTable, kinds_of}
use Rattle.flat_machine.specs.Suiting.{HaveOneSize}
use Rattle.flat_machine.proofs.Finds.{find-map}
use Rattle.flat_machine.proofs.Fresh.{found-longer}
use Rattle.flat_machine.proofs.Tables.{pushed-cases, refreshed-old}
use Rattle.job_tables.proofs.NodeKinds.{still_found}

-- ---- edges into a node

-- an edge of the same parent led to the node
pub record LedTo (edges : List Edge) (e : Edge) : Type 0 where
  pub edge : Edge
  pub there : Contains edges edge
  pub parent : edge.parent ≡ e.parent
  pub child : edge.child ≡ e.child

led_same : (edges : List Edge) (e : Edge) → Contains edges e → LedTo edges e
led_same edges e there = record { edge = e; there = there; parent = refl; child = refl }

led_derived : (edges : List Edge) (kinds : List NodeKind) (before : List Edge) (e : Edge) → Contains (refreshed kinds before) e
    → ((x : Edge) → Contains before x → x.child ≡ e.child → LedTo edges x) → LedTo edges e
led_derived edges kinds before e there back =
    let x = refreshed-old kinds before e there in
    let y = back x.edge x.there x.same.child in
    record { edge = y.edge; there = y.there; parent = y.parent ∙ x.same.parent; child = y.child ∙ x.same.child }

-- a new edge leads elsewhere
put_before : (new : Edge) (edges : List Edge) (e : Edge) → Contains (with_edge new edges) e → new.child ≢ e.child → Contains edges e
put_before new edges e there apart = elim (Contains-with_edge new edges e there) [
  | inl own ↦ absurd (apart (ap (λ (x : Edge). x.child) (sym own)))
  | inr old ↦ old
]

backed_before : (node : ℕ) (backing : Option ℕ) (edges : List Edge) (e : Edge) → Contains (with_backing_edge node backing edges) e → backing ≢ Some e.child
    → Contains edges e
backed_before node None edges e there apart = there
backed_before node (Some backing) edges e there apart = put_before (node_edge node Backing backing) edges e there (λ same. apart (ap Some same))

rebased_before : (node : ℕ) (backing : Option ℕ) (edges : List Edge) (e : Edge) → Contains (with_backing node backing edges) e → backing ≢ Some e.child
    → Contains edges e
rebased_before node None edges e there apart = (Contains-filter (λ x. not (is_edge (Node node) Backing x)) edges e there).0
rebased_before node (Some backing) edges e there apart = put_before (node_edge node Backing backing) edges e there (λ same. apart (ap Some same))

moved_before : (from to : ℕ) (edges : List Edge) (e : Edge) → Contains (with_moved from to edges) e → to ≢ e.child → LedTo edges e
moved_before from to edges e there apart =
    let r = Contains-with_moved from to edges e there in
    elim (moved-cases from to r.0) [
      | inl m ↦ absurd (apart (sym (ap (λ (x : Edge). x.child) (r.2 ∙ m.1))))
      | inr m ↦ record { edge = r.0; there = r.1; parent = ap (λ (x : Edge). x.parent) (sym (r.2 ∙ m.1)); child = ap (λ (x : Edge). x.child) (sym (r.2 ∙ m.1)) }
    ]

filtered_before : (filter node : ℕ) (edges : List Edge) (e : Edge) → Contains (filtered_edges filter node edges) e → filter ≢ e.child → node ≢ e.child
    → LedTo edges e
filtered_before filter node edges e there off apart =
    elim (pushed-cases (with_moved node filter edges) (filter_edge filter node idle_uses.perm idle_uses.shared) e there) [
      | inl old ↦ moved_before node filter edges e old off
      | inr new ↦ absurd (apart (ap (λ (x : Edge). x.child) (sym new)))
    ]

replaced_before : (from to : ℕ) (but : Option Parent) (edges : List Edge) (e : Edge) → Contains (map (replaced from to but) edges) e → to ≢ e.child
    → LedTo edges e
replaced_before from to but edges e there apart =
    let r = Contains-map (replaced from to but) edges e there in
    elim (replaced-cases from to but r.0) [
      | inl led ↦ absurd (apart (sym (ap (λ (x : Edge). x.child) r.2 ∙ led)))
      | inr same ↦ record { edge = r.0; there = r.1; parent = ap (λ (x : Edge). x.parent) (sym (r.2 ∙ same)); child = ap (λ (x : Edge). x.child) (sym (r.2 ∙ same)) }
    ]

-- a filter that goes was not over the node, to which no node leads
pulled_before : (filter : ℕ) (edges : List Edge) (e : Edge) → Contains (without_filter filter edges) e
    → ((x : Edge) (node : ℕ) → Contains edges x → x.child ≡ e.child → x.parent ≡ Node node → ⊥) → LedTo edges e
pulled_before filter edges e there none = by_found (find (is_filters filter) edges) refl there
  where
    by_found : (found : Option Edge) → find (is_filters filter) edges ≡ found
        → Contains (elim found as (λ _. List Edge) [ None ↦ edges | Some own ↦ with_moved filter own.child (but_filters filter edges) ]) e → LedTo edges e
    by_found None is at = led_same edges e at
    by_found (Some own) is at =
        let own_at = find-Some (is_filters filter) edges own is in
        let from : own.parent ≡ Node filter = same_parent-true own.parent (Node filter) (and-left (same_parent own.parent (Node filter)) _ own_at.1) in
        let x = moved_before filter own.child (but_filters filter edges) e at (λ same. none own filter own_at.0 same from) in
        record {
          edge = x.edge;
          there = (Contains-filter (λ y. not (is_filters filter y)) edges x.edge x.there).0;
          parent = x.parent;
          child = x.child;
        }

-- ---- changes

-- the change leads nothing to the node, and leaves it
abbrev pub PassesBy : Change → ℕ → Type 0
PassesBy (change.AddFormat new file backing) id = (file ≢ id) × (backing ≢ Some id)
PassesBy (change.AddFilter new child) id = child ≢ id
PassesBy (change.RemoveNode node) id = node ≢ id
PassesBy (change.PutFilter new node) id = (new.id ≢ id) × (node ≢ id)
PassesBy (change.UseNode slot what node) id = node ≢ id
PassesBy (change.PullFilter filter) id = filter ≢ id
PassesBy (change.Rebase node backing) id = backing ≢ Some id
PassesBy (change.AddDevice device node) id = node ≢ id
PassesBy (change.Attach overlay node) id = node ≢ id
PassesBy (change.Move from to but) id = to ≢ id
PassesBy c id = Unit {0}

-- no node leads to it
abbrev pub IsOffNodes : List Edge → ℕ → Type 0
IsOffNodes edges id = (e : Edge) (node : ℕ) → Contains edges e → e.child ≡ id → e.parent ≡ Node node → ⊥

pub led_before : (t : RunTable) (c : Change) (id : ℕ) → PassesBy c id → IsOffNodes t.edges id → (e : Edge) → Contains (changed t c).edges e → e.child ≡ id
    → LedTo t.edges e
unfolding changed
led_before t (change.AddFile new) id h off e there at =
    led_derived t.edges (kinds_of (changed t (change.AddFile new)).nodes) t.edges e there (λ x in_x to. led_same t.edges x in_x)
led_before t (change.AddFormat new file backing) id h off e there at =
    led_derived t.edges (kinds_of (changed t (change.AddFormat new file backing)).nodes) (with_backing_edge new.id backing (with_edge (node_edge new.id File file) t.edges)) e there
    (λ x in_x to. led_same t.edges x
    (put_before (node_edge new.id File file) t.edges x
    (backed_before new.id backing (with_edge (node_edge new.id File file) t.edges) x in_x (λ same. h.1 (same ∙ ap Some (to ∙ at))))
    (λ same. h.0 (same ∙ to ∙ at))))
led_before t (change.AddFilter new child) id h off e there at =
    led_derived t.edges (kinds_of (changed t (change.AddFilter new child)).nodes) (with_edge (node_edge new.id File child) t.edges) e there
    (λ x in_x to. led_same t.edges x (put_before (node_edge new.id File child) t.edges x in_x (λ same. h (same ∙ to ∙ at))))
led_before t (change.RemoveNode node) id h off e there at =
    led_derived t.edges (kinds_of (changed t (change.RemoveNode node)).nodes) (without_parent (Node node) t.edges) e there
    (λ x in_x to. led_same t.edges x (Contains-filter (λ y. not (same_parent y.parent (Node node))) t.edges x in_x).0)
led_before t (change.MakeWritable node) id h off e there at =
    led_derived t.edges (kinds_of (changed t (change.MakeWritable node)).nodes) t.edges e there (λ x in_x to. led_same t.edges x in_x)
led_before t (change.MakeReadOnly node) id h off e there at =
    led_derived t.edges (kinds_of (changed t (change.MakeReadOnly node)).nodes) t.edges e there (λ x in_x to. led_same t.edges x in_x)
led_before t (change.PutFilter new node) id h off e there at =
    led_derived t.edges (kinds_of (changed t (change.PutFilter new node)).nodes) (filtered_edges new.id node t.edges) e there
    (λ x in_x to. filtered_before new.id node t.edges x in_x (λ same. h.0 (same ∙ to ∙ at)) (λ same. h.1 (same ∙ to ∙ at)))
led_before t (change.UseNode slot what node) id h off e there at =
    led_derived t.edges (kinds_of t.nodes) (with_edge (job_edge slot what node) t.edges) e there
    (λ x in_x to. led_same t.edges x (put_before (job_edge slot what node) t.edges x in_x (λ same. h (same ∙ to ∙ at))))
led_before t (change.EndJob number slot drops) id h off e there at =
    led_derived t.edges (kinds_of t.nodes) (without_parent (Job slot) t.edges) e there
    (λ x in_x to. led_same t.edges x (Contains-filter (λ y. not (same_parent y.parent (Job slot))) t.edges x in_x).0)
led_before t (change.PullFilter filter) id h off e there at =
    led_derived t.edges (kinds_of (changed t (change.PullFilter filter)).nodes) (without_filter filter t.edges) e there
    (λ x in_x to. pulled_before filter t.edges x in_x (λ y node in_y same from. off y node in_y (same ∙ to ∙ at) from))
led_before t (change.Rebase node backing) id h off e there at =
    led_derived t.edges (kinds_of t.nodes) (with_backing node backing t.edges) e there
    (λ x in_x to. led_same t.edges x (rebased_before node backing t.edges x in_x (λ same. h (same ∙ ap Some (to ∙ at)))))
led_before t (change.AddDevice device node) id h off e there at =
    led_derived t.edges (kinds_of t.nodes) (with_edge (device_edge device node) t.edges) e there
    (λ x in_x to. led_same t.edges x (put_before (device_edge device node) t.edges x in_x (λ same. h (same ∙ to ∙ at))))
led_before t (change.RemoveDevice number) id h off e there at =
    led_derived t.edges (kinds_of t.nodes) (without_parent (Guest number) t.edges) e there
    (λ x in_x to. led_same t.edges x (Contains-filter (λ y. not (same_parent y.parent (Guest number))) t.edges x in_x).0)
led_before t (change.Attach overlay node) id h off e there at =
    led_derived t.edges (kinds_of t.nodes) (with_edge (node_edge overlay Backing node) t.edges) e there
    (λ x in_x to. led_same t.edges x (put_before (node_edge overlay Backing node) t.edges x in_x (λ same. h (same ∙ to ∙ at))))
led_before t (change.Move from to but) id h off e there at =
    led_derived t.edges (kinds_of t.nodes) (map (replaced from to (Some (Node but))) t.edges) e there
    (λ x in_x led. replaced_before from to (Some (Node but)) t.edges x in_x (λ same. h (same ∙ led ∙ at)))
led_before t c id h off e there at = led_same t.edges e there

-- ---- sizes

-- the change leaves the node
abbrev pub LeavesNode : Change → ℕ → Type 0
LeavesNode (change.RemoveNode node) id = node ≢ id
LeavesNode (change.PullFilter filter) id = filter ≢ id
LeavesNode c id = Unit {0}

pub passes_leaves : (c : Change) (id : ℕ) → PassesBy c id → LeavesNode c id
passes_leaves (change.RemoveNode node) id h = h
passes_leaves (change.PullFilter filter) id h = h
passes_leaves c id h = tt

record IsOfSize (nodes : List NodeRecord) (id size : ℕ) : Type 0 where
  row : NodeRecord
  found : find (λ (r : NodeRecord). r.id == id) nodes ≡ Some row
  size_is : row.size ≡ size

sized_mapped : (f : NodeRecord → NodeRecord) → ((row : NodeRecord) → ((f row).id ≡ row.id) × ((f row).size ≡ row.size)) → (nodes : List NodeRecord) (id size : ℕ)
    → IsOfSize nodes id size → IsOfSize (map f nodes) id size
sized_mapped f keeps nodes id size s = record {
  row = f s.row;
  found = find-map (λ (r : NodeRecord). r.id == id) f (λ r. ap (λ n. n == id) (keeps r).0) nodes ∙ ap (option_map f) s.found;
  size_is = (keeps s.row).1 ∙ s.size_is;
}

sized_pushed : (nodes : List NodeRecord) (new : NodeRecord) (id size : ℕ) → IsOfSize nodes id size → IsOfSize (nodes ++ new ∷ []) id size
sized_pushed nodes new id size s = record { row = s.row; found = found-longer (λ (r : NodeRecord). r.id == id) nodes new s.row s.found; size_is = s.size_is }

sized_without : (t : RunTable) (gone id size : ℕ) → gone ≢ id → IsOfSize t.nodes id size → IsOfSize (changed t (change.RemoveNode gone)).nodes id size
unfolding changed
sized_without t gone id size apart s = record { row = s.row; found = still_found t gone id (λ same. apart (sym same)) ∙ s.found; size_is = s.size_is }

changed_keeps : (node : ℕ) (f : NodeRecord → NodeRecord) (row : NodeRecord) → ((f row).id ≡ row.id) × ((f row).size ≡ row.size)
    → ((node_changed node f row).id ≡ row.id) × ((node_changed node f row).size ≡ row.size)
changed_keeps node f row keeps = by_test (row.id == node)
  where
    by_test : (b : Bool) → ((cond b (f row) row).id ≡ row.id) × ((cond b (f row) row).size ≡ row.size)
    by_test true = keeps
    by_test false = (refl, refl)

lost_keeps : (name : List ℕ) (row : NodeRecord) → ((lost_with name row).id ≡ row.id) × ((lost_with name row).size ≡ row.size)
lost_keeps name row = by_test (stands_over name row.filename)
  where
    by_test : (b : Bool) → ((cond b (unsettled row) row).id ≡ row.id) × ((cond b (unsettled row) row).size ≡ row.size)
    by_test true = (refl, refl)
    by_test false = (refl, refl)

sized_kept : (t : RunTable) (c : Change) (id size : ℕ) → LeavesNode c id → IsOfSize t.nodes id size → IsOfSize (changed t c).nodes id size
unfolding changed
sized_kept t (change.FormatFile node name length backing_file backing_fmt) id size h s =
    sized_mapped (node_changed node unsettled) (λ row. changed_keeps node unsettled row (refl, refl)) t.nodes id size s
sized_kept t (change.SpoilFile name) id size h s = sized_mapped (lost_with name) (lost_keeps name) t.nodes id size s
sized_kept t (change.AddFile new) id size h s = sized_pushed t.nodes new id size s
sized_kept t (change.AddFormat new file backing) id size h s =
    sized_pushed (map (node_changed file unsettled) t.nodes) new id size
    (sized_mapped (node_changed file unsettled) (λ row. changed_keeps file unsettled row (refl, refl)) t.nodes id size s)
sized_kept t (change.AddFilter new child) id size h s = sized_pushed t.nodes new id size s
sized_kept t (change.RemoveNode node) id size h s = sized_without t node id size h s
sized_kept t (change.Unsettle node) id size h s = sized_mapped (node_changed node unsettled) (λ row. changed_keeps node unsettled row (refl, refl)) t.nodes id size s
sized_kept t (change.MakeWritable node) id size h s = sized_mapped (node_changed node writable) (λ row. changed_keeps node writable row (refl, refl)) t.nodes id size s
sized_kept t (change.PutFilter new node) id size h s = sized_pushed t.nodes new id size s
sized_kept t (change.PullFilter filter) id size h s = sized_without t filter id size h s
sized_kept t (change.Settle node disk) id size h s = sized_mapped (node_changed node settled) (λ row. changed_keeps node settled row (refl, refl)) t.nodes id size s
sized_kept t (change.MakeReadOnly node) id size h s =
    sized_mapped (node_changed node kept_from_writes) (λ row. changed_keeps node kept_from_writes row (refl, refl)) t.nodes id size s
sized_kept t c id size h s = s

sizes_by : (t : RunTable) (first second size : ℕ) → IsOfSize t.nodes first size → IsOfSize t.nodes second size → HaveOneSize t first second
sizes_by t first second size a b = record { row = a.row; other = b.row; found = a.found; other_found = b.found; same = a.size_is ∙ sym b.size_is }

pub one_size_kept : (t : RunTable) (c : Change) (first second : ℕ) → LeavesNode c first → LeavesNode c second → HaveOneSize t first second
    → HaveOneSize (changed t c) first second
one_size_kept t c first second at_first at_second s =
    sizes_by (changed t c) first second s.row.size
    (sized_kept t c first s.row.size at_first (record { row = s.row; found = s.found; size_is = refl }))
    (sized_kept t c second s.row.size at_second (record { row = s.other; found = s.other_found; size_is = sym s.same }))

-- so it is where all rows of a table keep their sizes
pub one_size_mapped : (t now : RunTable) (f : NodeRecord → NodeRecord) → ((row : NodeRecord) → ((f row).id ≡ row.id) × ((f row).size ≡ row.size))
    → now.nodes ≡ map f t.nodes → (first second : ℕ) → HaveOneSize t first second → HaveOneSize now first second
one_size_mapped t now f keeps nodes first second s =
    sizes_by now first second s.row.size
    (subst (λ rows. IsOfSize rows first s.row.size) (sym nodes) (sized_mapped f keeps t.nodes first s.row.size (record { row = s.row; found = s.found; size_is = refl })))
    (subst (λ rows. IsOfSize rows second s.row.size) (sym nodes) (sized_mapped f keeps t.nodes second s.row.size (record { row = s.other; found = s.other_found; size_is = sym s.same })))
