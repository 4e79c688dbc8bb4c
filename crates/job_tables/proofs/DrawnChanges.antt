-- Edges may still be drawn behind changes that leave which jobs there are, where they keep the rule on permissions or are fewer.
use Rattle.std.proofs.Common.{◌≡◌, ◌⊎◌, ℕ, ◌<◌, List, [], ◌∷◌, ◌++◌, map, replicate, refl, sym, ◌∙◌, ap, subst, inl, inr, Bool, true, false, cond, Option, Some, None}
use Rattle.std.specs.Prelude.{◌==◌, not, IsSome}
use Rattle.std.specs.List.{Contains}
use Rattle.std.proofs.lemmas.Bool.{false≢true, eqb-true}
use Rattle.blk_graph.specs.declared.edge.Edge.{Edge}
use Rattle.blk_graph.specs.declared.edge.Parent.{Parent}
use Rattle.blk_graph.specs.declared.edge.Parent.TheVariants.{Node, Guest, Job}
use Rattle.blk_graph.specs.declared.edge.Role.TheVariants.{File, Backing}
use Rattle.blk_graph.specs.declared.kind.NodeKind.{NodeKind}
use Rattle.blk_graph.specs.Edges.{same_parent, IsListed}
use Rattle.blk_graph.specs.Edits.{with_child, with_edge, with_replaced, without_parent}
use Rattle.blk_graph.specs.Paths.{Reaches, IsAcyclic}
use Rattle.blk_graph.specs.Permissions.{has_role, node_edge, IsDrive, IsOfJob}
use Rattle.blk_graph.specs.declared.edge.Uses.{Uses}
use Rattle.blk_graph.specs.Refreshed.{no_kind, kind_at, IsOf, IsByTable, uses_into, ruled, ruled_from, refreshed, IsRefreshed}
use Rattle.blk_graph.specs.Rule.{KeepsPermissions}
use Rattle.blk_graph.proofs.EaseLemmas.{KeepsPermissions-fewer}
use Rattle.blk_graph.proofs.InverseLemmas.{same_parent-refl}
use Rattle.blk_graph.proofs.ListedLemmas.{IsListed-with_edge, IsListed-filter, IsListed-replaced, IsListed-refreshed}
use Rattle.blk_graph.proofs.Members.{find-Some, Contains-filter, Contains-map}
use Rattle.blk_graph.proofs.PathLemmas.{IsAcyclic-covered, Reaches-edge}
use Rattle.blk_graph.proofs.RefreshLemmas.{refreshed-by, EachIs-turned, ruled-same, IsRefreshed-refreshed}
use Rattle.blk_graph.proofs.RoleLemmas.{EachIs, EachIs-filter, EachIs-with_edge, EachIs-replaced}
use Rattle.blk_graph.proofs.StillLemmas.{refreshed-fixed}
use Rattle.qmp_rules.specs.declared.change.Change.{Change}
use Rattle.qmp_rules.specs.declared.change.Change.TheVariants as change
use Rattle.qmp_rules.specs.declared.rows.NodeRecord.{NodeRecord}
use Rattle.qmp_rules.specs.Changes.{changed, all_changed, node_changed, unsettled, stands_over, lost_with, without_record, with_backing_edge, with_format_edges, device_edge}
use Rattle.qmp_rules.specs.Table.{RunTable, node_by_id, kind_of_record, kinds_of}
use Rattle.flat_machine.specs.Suiting.{IsThere, TableSuits, AllTableSuit}
use Rattle.flat_machine.specs.Wiring.{TableStands}
use Rattle.flat_machine.proofs.Fresh.{found-longer}
use Rattle.flat_machine.proofs.RowKinds.{kind_or, kind_by, kinds-mapped}
use Rattle.flat_machine.proofs.TableRests.{table_keeps}
use Rattle.flat_machine.proofs.Tables.{pushed-cases, refreshed-new}
use Rattle.job_edges.proofs.Whole.{refreshed-agree}
use Rattle.job_tables.specs.Accepted.{HaveSmallIds}
use Rattle.job_tables.specs.Changes.{LeavesJobs, AllLeaveJobs}
use Rattle.job_tables.specs.Jobs.{EdgesAreDrawn}
use Rattle.job_tables.proofs.Drawn.{small_there}
use Rattle.job_tables.proofs.NodeKinds.{kind_found, others_gone}

-- ---- edges of guests and of jobs are of the table, and those of nodes are where the table stands

abbrev pub IsSet : Edge → Parent → Type 0
IsSet e (Node node) = Unit {0}
IsSet e (Guest guest) = IsDrive e
IsSet e (Job job) = IsOfJob e

abbrev pub AreSet : List Edge → Type 0
AreSet edges = EachIs (λ e. IsSet e e.parent) edges

set_of : (kinds : List NodeKind) (e : Edge) → IsByTable kinds e → IsSet e e.parent
set_of kinds e of = by_parent e.parent of
  where
    by_parent : (p : Parent) → IsOf kinds e p → IsSet e p
    by_parent (Node node) h = tt
    by_parent (Guest guest) h = h
    by_parent (Job job) h = h

set_ruled : (kinds : List NodeKind) (above : ℕ → Uses) (e : Edge) → IsSet e e.parent → IsSet (ruled kinds above e) (ruled kinds above e).parent
set_ruled kinds above e h = by_parent e.parent refl h
  where
    by_parent : (p : Parent) → e.parent ≡ p → IsSet e p → IsSet (ruled_from kinds above e p) (ruled_from kinds above e p).parent
    by_parent (Guest guest) is own = subst (IsSet e) (sym is) own
    by_parent (Job job) is own = subst (IsSet e) (sym is) own
    by_parent (Node node) is own =
        subst (IsSet (ruled_from kinds above e (Node node))) (sym (parent_same node is ∙ is)) tt
      where
        parent_same : (node : ℕ) → e.parent ≡ Node node → (ruled_from kinds above e (Node node)).parent ≡ e.parent
        parent_same node is = subst (λ p. (ruled_from kinds above e p).parent ≡ e.parent) is (ruled-same kinds above e).parent

set_derived : (kinds : List NodeKind) (edges : List Edge) → AreSet edges → AreSet (refreshed kinds edges)
set_derived kinds edges own =
    refreshed-by kinds AreSet (λ now h. EachIs-turned (λ e. IsSet e e.parent) kinds now (λ e of. set_ruled kinds (uses_into now) e of) h) edges own

set_further : (to : ℕ) (e : Edge) → IsSet e e.parent → IsSet (with_child to e) (with_child to e).parent
set_further to e h = by_parent e.parent h
  where
    by_parent : (p : Parent) → IsSet e p → IsSet (with_child to e) p
    by_parent (Node node) own = tt
    by_parent (Guest guest) own = record { guest = own.guest; writes = own.writes; share_rw = own.share_rw; is = ap (with_child to) own.is }
    by_parent (Job job) own = record { job = own.job; what = own.what; is = ap (with_child to) own.is }

table_by : (t : RunTable) → TableStands t → HaveSmallIds t → AreSet t.edges → EachIs (IsByTable (kinds_of t.nodes)) t.edges
table_by t h small own e there = by_parent e.parent refl (own e there)
  where
    by_row : (node : ℕ) → e.parent ≡ Node node → (found : Option NodeRecord) → node_by_id t node ≡ found → IsSome found
        → has_role (kind_at (kinds_of t.nodes) node).kind e.role ≡ true
    by_row node from None is some = absurd (let bad = some in cc)
    by_row node from (Some row) is some =
        let at = find-Some (λ (r : NodeRecord). r.id == node) t.nodes row is in
        ap (λ (k : NodeKind). has_role k.kind e.role) (kind_found t node row h.apart (small_there t small node (subst IsSome (sym is) refl)) is)
        ∙ h.roles e row there at.0 (from ∙ ap Node (sym (eqb-true row.id node at.1)))

    by_parent : (p : Parent) → e.parent ≡ p → IsSet e p → IsOf (kinds_of t.nodes) e p
    by_parent (Node node) from set = by_row node from (node_by_id t node) refl ((h.edges e there).parent node from)
    by_parent (Guest guest) from set = set
    by_parent (Job job) from set = set

-- ---- what is drawn but for the rule

pub record IsDerived (t : RunTable) : Type 0 where
  pub small : HaveSmallIds t
  pub listed : IsListed t.edges
  pub set : AreSet t.edges
  pub refreshed : IsRefreshed (kinds_of t.nodes) t.edges

pub derived_of : (t : RunTable) → EdgesAreDrawn t → HaveSmallIds t → IsDerived t
derived_of t d small =
    record { small = small; listed = d.listed; set = λ e there. set_of (kinds_of t.nodes) e (d.table e there); refreshed = d.refreshed }

pub drawn_of : (t : RunTable) → TableStands t → IsDerived t → KeepsPermissions t.edges → EdgesAreDrawn t
drawn_of t h d rule = record { listed = d.listed; table = table_by t h d.small d.set; refreshed = d.refreshed; rule = rule }

-- a list has no cycle where what is derived of it has none
acyclic_before : (kinds : List NodeKind) (edges : List Edge) → IsAcyclic (refreshed kinds edges) → IsAcyclic edges
acyclic_before kinds edges acyclic =
    IsAcyclic-covered edges (refreshed kinds edges)
    (λ a e there from.
    let x = refreshed-new kinds edges e there in
    subst (Reaches (refreshed kinds edges) a) x.same.child (Reaches-edge (refreshed kinds edges) a x.edge x.there (x.same.parent ∙ from))) acyclic

rewired_derived : (now : RunTable) (edges : List Edge) → TableStands now → HaveSmallIds now → now.edges ≡ refreshed (kinds_of now.nodes) edges → IsListed edges
    → AreSet edges → IsDerived now
rewired_derived now edges h small is listed own =
    let kinds : List NodeKind = kinds_of now.nodes in
    record {
      small = small;
      listed = subst IsListed (sym is) (IsListed-refreshed kinds edges listed);
      set = subst AreSet (sym is) (set_derived kinds edges own);
      refreshed = subst (IsRefreshed kinds) (sym is) (IsRefreshed-refreshed kinds edges listed (acyclic_before kinds edges (subst IsAcyclic is h.acyclic)));
    }

-- rows that change in something else than what edges are derived of
same_kinds : (t now : RunTable) → kinds_of now.nodes ≡ kinds_of t.nodes → now.edges ≡ t.edges → HaveSmallIds now → IsDerived t → IsDerived now
same_kinds t now kinds edges small d = record {
  small = small;
  listed = subst IsListed (sym edges) d.listed;
  set = subst AreSet (sym edges) d.set;
  refreshed = subst (λ ks. IsRefreshed ks now.edges) (sym kinds) (subst (IsRefreshed (kinds_of t.nodes)) (sym edges) d.refreshed);
}

-- ---- numbers of what is new

abbrev pub HasSmallNumber : Change → Type 0
HasSmallNumber (change.AddFile row) = row.id < 64
HasSmallNumber (change.AddFormat row file backing) = row.id < 64
HasSmallNumber (change.AddFilter row child) = row.id < 64
HasSmallNumber (change.AddDevice device node) = device.number < 80
HasSmallNumber c = Unit {0}

abbrev pub AllHaveSmallNumbers : List Change → Type 0
AllHaveSmallNumbers [] = Unit {0}
AllHaveSmallNumbers (c ∷ changes) = HasSmallNumber c × AllHaveSmallNumbers changes

id_unsettled : (node : ℕ) (row : NodeRecord) → (node_changed node unsettled row).id ≡ row.id
id_unsettled node row = by_test (row.id == node)
  where
    by_test : (b : Bool) → (cond b (unsettled row) row).id ≡ row.id
    by_test true = refl
    by_test false = refl

kind_unsettled : (node : ℕ) (row : NodeRecord) → kind_of_record (node_changed node unsettled row) ≡ kind_of_record row
kind_unsettled node row = by_test (row.id == node)
  where
    by_test : (b : Bool) → kind_of_record (cond b (unsettled row) row) ≡ kind_of_record row
    by_test true = refl
    by_test false = refl

id_lost : (name : List ℕ) (row : NodeRecord) → (lost_with name row).id ≡ row.id
id_lost name row = by_test (stands_over name row.filename)
  where
    by_test : (b : Bool) → (cond b (unsettled row) row).id ≡ row.id
    by_test true = refl
    by_test false = refl

kind_lost : (name : List ℕ) (row : NodeRecord) → kind_of_record (lost_with name row) ≡ kind_of_record row
kind_lost name row = by_test (stands_over name row.filename)
  where
    by_test : (b : Bool) → kind_of_record (cond b (unsettled row) row) ≡ kind_of_record row
    by_test true = refl
    by_test false = refl

mapped_small : (t : RunTable) (f : NodeRecord → NodeRecord) → ((row : NodeRecord) → (f row).id ≡ row.id) → HaveSmallIds t
    → (later : NodeRecord) → Contains (map f t.nodes) later → later.id < 64
mapped_small t f ids small later there =
    let r = Contains-map f t.nodes later there in
    subst (λ n. n < 64) (sym (ap (λ (x : NodeRecord). x.id) r.2 ∙ ids r.0)) (small r.0 r.1)

pushed_small : (rows : List NodeRecord) (new : NodeRecord) → ((row : NodeRecord) → Contains rows row → row.id < 64) → new.id < 64 → (row : NodeRecord)
    → Contains (rows ++ new ∷ []) row → row.id < 64
pushed_small rows new small own row there = elim (pushed-cases rows new row there) [
  | inl old ↦ small row old
  | inr is ↦ subst (λ (r : NodeRecord). r.id < 64) (sym is) own
]

mapped_kinds : (t : RunTable) (f : NodeRecord → NodeRecord) → ((row : NodeRecord) → (f row).id ≡ row.id) → ((row : NodeRecord) → kind_of_record (f row) ≡ kind_of_record row)
    → kinds_of (map f t.nodes) ≡ kinds_of t.nodes
mapped_kinds t f ids kinds = kinds-mapped f ids kinds t.nodes (replicate 64 no_kind)

set_node : (e : Edge) (node : ℕ) → e.parent ≡ Node node → IsSet e e.parent
set_node e node is = subst (IsSet e) (sym is) tt

-- it puts no edge
abbrev pub TakesEdges : Change → Type 0
TakesEdges (change.AddFormat row file backing) = ⊥
TakesEdges (change.AddFilter row child) = ⊥
TakesEdges (change.AddDevice device node) = ⊥
TakesEdges (change.Attach overlay node) = ⊥
TakesEdges c = Unit {0}

abbrev pub AllTakeEdges : List Change → Type 0
AllTakeEdges [] = Unit {0}
AllTakeEdges (c ∷ changes) = TakesEdges c × AllTakeEdges changes

-- ---- each change

module _ (t : RunTable) (h : TableStands t) (d : IsDerived t) where
  listed_with : (e : Edge) (node : ℕ) (other : ℕ) → e ≡ node_edge node File other ⊎ (e ≡ node_edge node Backing other) → node < 64 → other < 64 → (edges : List Edge)
      → IsListed edges → IsListed (with_edge e edges)
  listed_with e node other (inl is) small below edges listed =
      subst (λ x. IsListed (with_edge x edges)) (sym is) (IsListed-with_edge (node_edge node File other) edges (record { role = refl; number = small; child = below }) listed)
  listed_with e node other (inr is) small below edges listed =
      subst (λ x. IsListed (with_edge x edges)) (sym is) (IsListed-with_edge (node_edge node Backing other) edges (record { role = refl; number = small; child = below }) listed)

  set_with : (e : Edge) (node : ℕ) → e.parent ≡ Node node → (edges : List Edge) → AreSet edges → AreSet (with_edge e edges)
  set_with e node is edges own = EachIs-with_edge (λ x. IsSet x x.parent) e edges (set_node e node is) own

  small_at : (node : ℕ) → IsThere t node → node < 64
  small_at node there = small_there t d.small node there

  pub change_derived : (c : Change) → TableSuits t c → LeavesJobs t c → HasSmallNumber c → IsDerived (changed t c)
  unfolding changed
  change_derived change.Negotiate suits leaves small = same_kinds t (changed t change.Negotiate) refl refl d.small d
  change_derived (change.KeepId id) suits leaves small = same_kinds t (changed t (change.KeepId id)) refl refl d.small d
  change_derived (change.DropId id) suits leaves small = same_kinds t (changed t (change.DropId id)) refl refl d.small d
  change_derived (change.MakeFile name size) suits leaves small = same_kinds t (changed t (change.MakeFile name size)) refl refl d.small d
  change_derived (change.FormatFile node name size backing_file backing_fmt) suits leaves small =
      same_kinds t (changed t (change.FormatFile node name size backing_file backing_fmt)) (mapped_kinds t (node_changed node unsettled) (id_unsettled node) (kind_unsettled node)) refl
      (mapped_small t (node_changed node unsettled) (id_unsettled node) d.small) d
  change_derived (change.SpoilFile name) suits leaves small =
      same_kinds t (changed t (change.SpoilFile name)) (mapped_kinds t (lost_with name) (id_lost name) (kind_lost name)) refl (mapped_small t (lost_with name) (id_lost name) d.small) d
  change_derived (change.UseFile name) suits leaves small = same_kinds t (changed t (change.UseFile name)) refl refl d.small d
  change_derived (change.Unsettle node) suits leaves small =
      same_kinds t (changed t (change.Unsettle node)) (mapped_kinds t (node_changed node unsettled) (id_unsettled node) (kind_unsettled node)) refl
      (mapped_small t (node_changed node unsettled) (id_unsettled node) d.small) d
  change_derived (change.AskJob number new) suits leaves small = same_kinds t (changed t (change.AskJob number new)) refl refl d.small d
  change_derived (change.ReadyJob number) suits leaves small = same_kinds t (changed t (change.ReadyJob number)) refl refl d.small d
  change_derived (change.AddBitmap row) suits leaves small = same_kinds t (changed t (change.AddBitmap row)) refl refl d.small d
  change_derived (change.RemoveBitmap node name) suits leaves small = same_kinds t (changed t (change.RemoveBitmap node name)) refl refl d.small d
  change_derived (change.TurnBitmap node name on) suits leaves small = same_kinds t (changed t (change.TurnBitmap node name on)) refl refl d.small d
  change_derived (change.ClearBitmap node name) suits leaves small = d
  change_derived (change.MergeBitmap node name source_node source) suits leaves small = d
  change_derived (change.AddFile row) suits leaves small =
      rewired_derived (changed t (change.AddFile row)) t.edges (table_keeps t (change.AddFile row) suits h) (pushed_small t.nodes row d.small small) refl d.listed d.set
  change_derived (change.AddFormat row file backing) suits leaves small =
      let edges : List Edge = with_edge (node_edge row.id File file) t.edges in
      let under : file < 64 = small_at file (subst IsSome (sym suits.found) refl) in
      rewired_derived (changed t (change.AddFormat row file backing)) (with_format_edges row.id file backing t.edges) (table_keeps t (change.AddFormat row file backing) suits h)
      (pushed_small (map (node_changed file unsettled) t.nodes) row (mapped_small t (node_changed file unsettled) (id_unsettled file) d.small) small) refl
      (listed_backing backing edges (listed_with (node_edge row.id File file) row.id file (inl refl) small under t.edges d.listed)
      (λ node is. small_at node (suits.backed node is).there))
      (set_backing backing edges (set_with (node_edge row.id File file) row.id refl t.edges d.set))
    where
      listed_backing : (o : Option ℕ) (edges : List Edge) → IsListed edges → ((node : ℕ) → o ≡ Some node → node < 64) → IsListed (with_backing_edge row.id o edges)
      listed_backing None edges listed below = listed
      listed_backing (Some node) edges listed below = listed_with (node_edge row.id Backing node) row.id node (inr refl) small (below node refl) edges listed

      set_backing : (o : Option ℕ) (edges : List Edge) → AreSet edges → AreSet (with_backing_edge row.id o edges)
      set_backing None edges own = own
      set_backing (Some node) edges own = set_with (node_edge row.id Backing node) row.id refl edges own
  change_derived (change.AddFilter row child) suits leaves small =
      rewired_derived (changed t (change.AddFilter row child)) (with_edge (node_edge row.id File child) t.edges) (table_keeps t (change.AddFilter row child) suits h)
      (pushed_small t.nodes row d.small small) refl
      (listed_with (node_edge row.id File child) row.id child (inl refl) small (small_at child (subst IsSome (sym suits.found) refl)) t.edges d.listed)
      (set_with (node_edge row.id File child) row.id refl t.edges d.set)
  change_derived (change.RemoveNode node) suits leaves small =
      rewired_derived (changed t (change.RemoveNode node)) (without_parent (Node node) t.edges) (table_keeps t (change.RemoveNode node) suits h)
      (λ row there. d.small row (Contains-filter (λ (r : NodeRecord). not (r.id == node)) t.nodes row there).0) refl
      (IsListed-filter (λ e. not (same_parent e.parent (Node node))) t.edges d.listed)
      (EachIs-filter (λ e. IsSet e e.parent) (λ e. not (same_parent e.parent (Node node))) t.edges d.set)
  change_derived (change.AddDevice device node) suits leaves small =
      rewired_derived (changed t (change.AddDevice device node)) (with_edge (device_edge device node) t.edges) (table_keeps t (change.AddDevice device node) suits h) d.small refl
      (IsListed-with_edge (device_edge device node) t.edges (record { role = refl; number = small; child = small_at node suits.there }) d.listed)
      (EachIs-with_edge (λ x. IsSet x x.parent) (device_edge device node) t.edges
      (record { guest = device.number; writes = not device.read_only; share_rw = device.share_rw; is = refl }) d.set)
  change_derived (change.RemoveDevice number) suits leaves small =
      rewired_derived (changed t (change.RemoveDevice number)) (without_parent (Guest number) t.edges) (table_keeps t (change.RemoveDevice number) suits h) d.small refl
      (IsListed-filter (λ e. not (same_parent e.parent (Guest number))) t.edges d.listed)
      (EachIs-filter (λ e. IsSet e e.parent) (λ e. not (same_parent e.parent (Guest number))) t.edges d.set)
  change_derived c suits leaves small = absurd leaves

  -- of a snapshot
  pub attach_derived : (overlay node : ℕ) → TableSuits t (change.Attach overlay node) → IsDerived (changed t (change.Attach overlay node))
  unfolding changed
  attach_derived overlay node suits =
      rewired_derived (changed t (change.Attach overlay node)) (with_edge (node_edge overlay Backing node) t.edges)
      (table_keeps t (change.Attach overlay node) suits h) d.small refl
      (listed_with (node_edge overlay Backing node) overlay node (inr refl) (small_at overlay (subst IsSome (sym suits.sizes.found) refl))
      (small_at node (subst IsSome (sym suits.sizes.other_found) refl)) t.edges d.listed)
      (set_with (node_edge overlay Backing node) overlay refl t.edges d.set)

  pub move_derived : (from to but : ℕ) → TableSuits t (change.Move from to but) → IsDerived (changed t (change.Move from to but))
  unfolding changed
  move_derived from to but suits =
      rewired_derived (changed t (change.Move from to but)) (with_replaced from to (Some (Node but)) t.edges)
      (table_keeps t (change.Move from to but) suits h) d.small refl
      (IsListed-replaced from to (Some (Node but)) t.edges (small_at to (subst IsSome (sym suits.sizes.other_found) refl)) d.listed)
      (EachIs-replaced (λ x. IsSet x x.parent) from to (Some (Node but)) t.edges (set_further to) d.set)

  -- ---- where no edge comes the rule is kept

  pub change_ruled : (c : Change) → TableSuits t c → LeavesJobs t c → TakesEdges c → KeepsPermissions t.edges → KeepsPermissions (changed t c).edges
  unfolding changed
  change_ruled change.Negotiate suits leaves takes rule = rule
  change_ruled (change.KeepId id) suits leaves takes rule = rule
  change_ruled (change.DropId id) suits leaves takes rule = rule
  change_ruled (change.MakeFile name size) suits leaves takes rule = rule
  change_ruled (change.FormatFile node name size backing_file backing_fmt) suits leaves takes rule = rule
  change_ruled (change.SpoilFile name) suits leaves takes rule = rule
  change_ruled (change.UseFile name) suits leaves takes rule = rule
  change_ruled (change.Unsettle node) suits leaves takes rule = rule
  change_ruled (change.AskJob number new) suits leaves takes rule = rule
  change_ruled (change.ReadyJob number) suits leaves takes rule = rule
  change_ruled (change.AddBitmap row) suits leaves takes rule = rule
  change_ruled (change.RemoveBitmap node name) suits leaves takes rule = rule
  change_ruled (change.TurnBitmap node name on) suits leaves takes rule = rule
  change_ruled (change.ClearBitmap node name) suits leaves takes rule = rule
  change_ruled (change.MergeBitmap node name source_node source) suits leaves takes rule = rule
  change_ruled (change.AddFile row) suits leaves takes rule =
      let kinds : List NodeKind = kinds_of (t.nodes ++ row ∷ []) in
      subst KeepsPermissions (sym (refreshed-agree (kinds_of t.nodes) kinds t.edges agree ∙ refreshed-fixed (kinds_of t.nodes) t.edges d.refreshed)) rule
    where
      now : RunTable
      now = changed t (change.AddFile row)

      at_node : (node : ℕ) (found : Option NodeRecord) → node_by_id t node ≡ found → IsSome found
          → kind_at (kinds_of (t.nodes ++ row ∷ [])) node ≡ kind_at (kinds_of t.nodes) node
      at_node node None is some = absurd (let bad = some in cc)
      at_node node (Some old) is some =
          let small : node < 64 = small_at node (subst IsSome (sym is) refl) in
          kind_by now node (table_keeps t (change.AddFile row) suits h).apart small
          ∙ ap (kind_or no_kind) (found-longer (λ (r : NodeRecord). r.id == node) t.nodes row old is)
          ∙ sym (kind_by t node h.apart small ∙ ap (kind_or no_kind) is)

      agree : (e : Edge) → Contains t.edges e → (node : ℕ) → e.parent ≡ Node node → kind_at (kinds_of (t.nodes ++ row ∷ [])) node ≡ kind_at (kinds_of t.nodes) node
      agree e there node from = at_node node (node_by_id t node) refl ((h.edges e there).parent node from)
  change_ruled (change.RemoveNode node) suits leaves takes rule =
      let kinds : List NodeKind = kinds_of (without_record node t.nodes) in
      subst KeepsPermissions (sym (refreshed-agree (kinds_of t.nodes) kinds (without_parent (Node node) t.edges) agree))
      (KeepsPermissions-fewer (kinds_of t.nodes) (λ e. not (same_parent e.parent (Node node))) t.edges d.refreshed rule)
    where
      agree : (e : Edge) → Contains (without_parent (Node node) t.edges) e → (n : ℕ) → e.parent ≡ Node n
          → kind_at (kinds_of (without_record node t.nodes)) n ≡ kind_at (kinds_of t.nodes) n
      agree e there n from =
          let r = Contains-filter (λ (x : Edge). not (same_parent x.parent (Node node))) t.edges e there in
          others_gone t (changed t (change.RemoveNode node)) node refl h.apart n
          (λ same.
          let yes : same_parent e.parent (Node node) ≡ true = ap (λ p. same_parent p (Node node)) (from ∙ ap Node same) ∙ same_parent-refl (Node node) in
          false≢true (sym (ap not yes) ∙ r.1))
  change_ruled (change.RemoveDevice number) suits leaves takes rule =
      KeepsPermissions-fewer (kinds_of t.nodes) (λ e. not (same_parent e.parent (Guest number))) t.edges d.refreshed rule
  change_ruled (change.AddFormat row file backing) suits leaves takes rule = absurd takes
  change_ruled (change.AddFilter row child) suits leaves takes rule = absurd takes
  change_ruled (change.AddDevice device node) suits leaves takes rule = absurd takes
  change_ruled c suits leaves takes rule = absurd leaves

-- ---- in turn

pub changes_derived : (changes : List Change) (t : RunTable) → TableStands t → IsDerived t → AllTableSuit t changes → AllLeaveJobs t changes
    → AllHaveSmallNumbers changes → IsDerived (all_changed t changes)
changes_derived [] t h d suits leaves small = d
changes_derived (c ∷ changes) t h d suits leaves small =
    changes_derived changes (changed t c) (table_keeps t c suits.0 h) (change_derived t h d c suits.0 leaves.0 small.0) suits.1 leaves.1 small.1

pub changes_ruled : (changes : List Change) (t : RunTable) → TableStands t → IsDerived t → AllTableSuit t changes → AllLeaveJobs t changes
    → AllHaveSmallNumbers changes → AllTakeEdges changes → KeepsPermissions t.edges → KeepsPermissions (all_changed t changes).edges
changes_ruled [] t h d suits leaves small takes rule = rule
changes_ruled (c ∷ changes) t h d suits leaves small takes rule =
    changes_ruled changes (changed t c) (table_keeps t c suits.0 h) (change_derived t h d c suits.0 leaves.0 small.0) suits.1 leaves.1 small.1 takes.1
    (change_ruled t h d c suits.0 leaves.0 takes.0 rule)
