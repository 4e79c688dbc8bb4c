-- The edges behind a start may be drawn, where they keep the rule on permissions.
use Rattle.std.proofs.Common.{◌≡◌, ◌≢◌, ℕ, ◌<◌, List, [], ◌∷◌, ◌++◌, map, refl, sym, ◌∙◌, ap, subst, inl, inr, Bool, true, false, cond, Option, Some, None, option_map}
use Rattle.std.specs.Prelude.{◌==◌, IsSome}
use Rattle.std.specs.List.{Contains, find}
use Rattle.std.proofs.lemmas.Bool.{eqb-true, eq-eqb}
use Rattle.blk_graph.specs.declared.edge.Conflict.{Conflict}
use Rattle.blk_graph.specs.declared.edge.Edge.{Edge}
use Rattle.blk_graph.specs.declared.edge.Parent.{Parent}
use Rattle.blk_graph.specs.declared.edge.Parent.TheVariants.{Node, Guest, Job}
use Rattle.blk_graph.specs.declared.edge.Role.TheVariants.{Filtered}
use Rattle.blk_graph.specs.declared.kind.JobUse.{JobUse}
use Rattle.blk_graph.specs.declared.kind.JobUse.TheVariants.{CopyTarget, CommitTop, CommitBetween, CommitBase, StreamTop, StreamBelow}
use Rattle.blk_graph.specs.declared.kind.NodeKind.{NodeKind}
use Rattle.blk_graph.specs.Edges.{may_have, MayStand, IsListed}
use Rattle.blk_graph.specs.Edits.{IsLone, with_child, with_edge}
use Rattle.blk_graph.specs.Paths.{IsAcyclic}
use Rattle.blk_graph.specs.Permissions.{has_role, idle_uses, job_role, job_edge}
use Rattle.blk_graph.specs.Refreshed.{no_kind, kind_at, IsOf, IsByTable, uses_into, refreshed, IsRefreshed}
use Rattle.blk_graph.specs.Rule.{first_conflict}
use Rattle.blk_graph.proofs.DraftLemmas.{acyclic_put}
use Rattle.blk_graph.proofs.FilterLemmas.{IsAcyclic-with_filter}
use Rattle.blk_graph.proofs.FitLemmas.{table_ruled}
use Rattle.blk_graph.proofs.ListLemmas.{judged-None}
use Rattle.blk_graph.proofs.ListedLemmas.{IsListed-with_edge, IsListed-with_filter, IsListed-refreshed}
use Rattle.blk_graph.proofs.Members.{Contains-here, Contains-there, find-Some, Contains-map, map-Contains}
use Rattle.blk_graph.proofs.EditLemmas.{Contains-with_edge}
use Rattle.blk_graph.proofs.RefreshLemmas.{refreshed-by, EachIs-turned, IsAcyclic-refreshed, IsRefreshed-refreshed}
use Rattle.blk_graph.proofs.RoleLemmas.{EachIs, EachIs-with_edge, EachIs-with_filter}
use Rattle.qmp_rules.specs.declared.change.Change.{Change}
use Rattle.qmp_rules.specs.declared.change.Change.TheVariants as change
use Rattle.qmp_rules.specs.declared.rows.NodeRecord.{NodeRecord}
use Rattle.qmp_rules.specs.declared.rows.JobRecord.{JobRecord}
use Rattle.qmp_rules.specs.Answers.{conflict_refusal, conflict_in}
use Rattle.qmp_rules.specs.Changes.{changed, all_changed, node_changed, unsettled, writable, filtered_edges}
use Rattle.qmp_rules.specs.Edits.{node_ids}
use Rattle.qmp_rules.specs.Table.{RunTable, node_by_id, kinds_of}
use Rattle.flat_machine.specs.Suiting.{IsThere}
use Rattle.flat_machine.specs.Wiring.{HaveDistinctIds, HasEnds, EdgesHaveEnds}
use Rattle.flat_machine.proofs.Fresh.{found-longer, found-new}
use Rattle.flat_machine.proofs.RowKinds.{kind_or, kind_by}
use Rattle.flat_machine.proofs.Tables.{pushed-cases, refreshed-old}
use Rattle.job_tables.specs.Accepted.{HaveSmallIds}
use Rattle.job_tables.specs.Jobs.{EdgesAreDrawn}
use Rattle.job_tables.proofs.Begun.{IsBefore, AreBefore}
use Rattle.job_tables.proofs.NodeKinds.{past, small_or, found_mapped, mapped_apart}
use Rattle.job_tables.proofs.Put.{put_cases, lone}
use Rattle.job_tables.proofs.Uses.{UseOf, change_of}

-- ---- a table whose edges may stand in a list, of the table of permissions and without a cycle

pub record IsDraft (t : RunTable) : Type 0 where
  pub apart : HaveDistinctIds t
  pub ends : EdgesHaveEnds t
  pub small : HaveSmallIds t
  pub listed : IsListed t.edges
  pub table : EachIs (IsByTable (kinds_of t.nodes)) t.edges
  pub acyclic : IsAcyclic t.edges

-- what is derived of such edges
module _ (kinds : List NodeKind) (edges : List Edge) (listed : IsListed edges) (table : EachIs (IsByTable kinds) edges) (acyclic : IsAcyclic edges) where
  derived_listed : IsListed (refreshed kinds edges)
  derived_listed = IsListed-refreshed kinds edges listed

  derived_table : EachIs (IsByTable kinds) (refreshed kinds edges)
  derived_table = refreshed-by kinds (EachIs (IsByTable kinds)) (λ now h. EachIs-turned (IsByTable kinds) kinds now (table_ruled kinds kinds (uses_into now)) h) edges table

  derived_acyclic : IsAcyclic (refreshed kinds edges)
  derived_acyclic = IsAcyclic-refreshed kinds edges acyclic

derived_ends : (t now : RunTable) (kinds : List NodeKind) (edges : List Edge) → now.edges ≡ refreshed kinds edges
    → ((e : Edge) → Contains edges e → HasEnds now e) → EdgesHaveEnds now
derived_ends t now kinds edges is ends e there =
    let x = refreshed-old kinds edges e (subst (λ es. Contains es e) is there) in
    let h = ends x.edge x.there in
    record {
      parent = λ node from. h.parent node (x.same.parent ∙ from);
      child = subst (λ n. IsSome (node_by_id now n)) x.same.child h.child;
    }

-- an edge is of the table where the kind of the node that has it is the same
table_as : (old new : List NodeKind) (e : Edge) → ((node : ℕ) → e.parent ≡ Node node → (kind_at new node).kind ≡ (kind_at old node).kind)
    → IsByTable old e → IsByTable new e
table_as old new e same h = by_parent e.parent refl h
  where
    by_parent : (p : Parent) → e.parent ≡ p → IsOf old e p → IsOf new e p
    by_parent (Node node) is of = ap (λ k. has_role k e.role) (same node is) ∙ of
    by_parent (Guest guest) is of = of
    by_parent (Job job) is of = of

-- ---- rows that change, each of which keeps its id and kind

module _ (t now : RunTable) (f : NodeRecord → NodeRecord) (ids : (row : NodeRecord) → (f row).id ≡ row.id)
    (kinds : (row : NodeRecord) → (f row).kind ≡ row.kind) (nodes : now.nodes ≡ map f t.nodes) (d : IsDraft t) where
  now_apart : HaveDistinctIds now
  now_apart = mapped_apart t now f ids nodes d.apart

  some_as : (o : Option NodeRecord) → IsSome o → IsSome (option_map f o)
  some_as None some = some
  some_as (Some row) some = refl

  there_as : (node : ℕ) → IsThere t node → IsThere now node
  there_as node there = subst IsSome (sym (found_mapped t now f ids nodes node)) (some_as (node_by_id t node) there)

  kind_as : (node : ℕ) → (kind_at (kinds_of now.nodes) node).kind ≡ (kind_at (kinds_of t.nodes) node).kind
  kind_as node = elim (small_or node) [
    | inl small ↦
        ap (λ (k : NodeKind). k.kind) (kind_by now node now_apart small ∙ ap (kind_or no_kind) (found_mapped t now f ids nodes node))
        ∙ of_found (node_by_id t node) ∙ sym (ap (λ (k : NodeKind). k.kind) (kind_by t node d.apart small))
    | inr large ↦ ap (λ (k : NodeKind). k.kind) (past now.nodes node large ∙ sym (past t.nodes node large))
  ]
    where
      of_found : (found : Option NodeRecord) → (kind_or no_kind (option_map f found)).kind ≡ (kind_or no_kind found).kind
      of_found None = refl
      of_found (Some row) = kinds row

  mapped_small : HaveSmallIds now
  mapped_small later there =
      let r = Contains-map f t.nodes later (subst (λ rows. Contains rows later) nodes there) in
      subst (λ n. n < 64) (sym (ap (λ (x : NodeRecord). x.id) r.2 ∙ ids r.0)) (d.small r.0 r.1)

  old_table : EachIs (IsByTable (kinds_of now.nodes)) t.edges
  old_table e there = table_as (kinds_of t.nodes) (kinds_of now.nodes) e (λ node from. kind_as node) (d.table e there)

  old_ends : (e : Edge) → Contains t.edges e → HasEnds now e
  old_ends e there =
      let h = d.ends e there in
      record { parent = λ node from. there_as node (h.parent node from); child = there_as e.child h.child }

  mapped_draft : now.edges ≡ t.edges → IsDraft now
  mapped_draft edges = record {
    apart = now_apart;
    ends = λ e there. old_ends e (subst (λ es. Contains es e) edges there);
    small = mapped_small;
    listed = subst IsListed (sym edges) d.listed;
    table = subst (EachIs (IsByTable (kinds_of now.nodes))) (sym edges) old_table;
    acyclic = subst IsAcyclic (sym edges) d.acyclic;
  }

  redrawn_draft : now.edges ≡ refreshed (kinds_of now.nodes) t.edges → IsDraft now
  redrawn_draft edges = record {
    apart = now_apart;
    ends = derived_ends t now (kinds_of now.nodes) t.edges edges old_ends;
    small = mapped_small;
    listed = subst IsListed (sym edges) (derived_listed (kinds_of now.nodes) t.edges d.listed old_table d.acyclic);
    table = subst (EachIs (IsByTable (kinds_of now.nodes))) (sym edges) (derived_table (kinds_of now.nodes) t.edges d.listed old_table d.acyclic);
    acyclic = subst IsAcyclic (sym edges) (derived_acyclic (kinds_of now.nodes) t.edges d.listed old_table d.acyclic);
  }

maps_self : {X : Type 0} (xs : List X) → map (λ x. x) xs ≡ xs
maps_self [] = refl
maps_self (x ∷ xs) = ap (λ ys. x ∷ ys) (maps_self xs)

id_changed : (node : ℕ) (f : NodeRecord → NodeRecord) (row : NodeRecord) → (f row).id ≡ row.id → (node_changed node f row).id ≡ row.id
id_changed node f row same = by_test (row.id == node)
  where
    by_test : (b : Bool) → (cond b (f row) row).id ≡ row.id
    by_test true = same
    by_test false = refl

kind_changed : (node : ℕ) (f : NodeRecord → NodeRecord) (row : NodeRecord) → (f row).kind ≡ row.kind → (node_changed node f row).kind ≡ row.kind
kind_changed node f row same = by_test (row.id == node)
  where
    by_test : (b : Bool) → (cond b (f row) row).kind ≡ row.kind
    by_test true = same
    by_test false = refl

before_draft : (t : RunTable) (c : Change) → IsBefore c → IsDraft t → IsDraft (changed t c)
unfolding changed
before_draft t (change.UseFile name) q d =
    mapped_draft t (changed t (change.UseFile name)) (λ r. r) (λ r. refl) (λ r. refl) (sym (maps_self t.nodes)) d refl
before_draft t (change.Unsettle node) q d =
    mapped_draft t (changed t (change.Unsettle node)) (node_changed node unsettled) (λ r. id_changed node unsettled r refl) (λ r. kind_changed node unsettled r refl) refl d refl
before_draft t (change.MakeWritable node) q d =
    redrawn_draft t (changed t (change.MakeWritable node)) (node_changed node writable) (λ r. id_changed node writable r refl) (λ r. kind_changed node writable r refl) refl d refl
before_draft t c q d = absurd q

pub all_before_draft : (changes : List Change) (t : RunTable) → AreBefore changes → IsDraft t → IsDraft (all_changed t changes)
all_before_draft [] t q d = d
all_before_draft (c ∷ changes) t q d = all_before_draft changes (changed t c) q.1 (before_draft t c q.0 d)

-- the job's row
pub row_draft : (t : RunTable) (row : JobRecord) → IsDraft t → IsDraft (changed t (change.StartJob row))
unfolding changed
row_draft t row d = record {
  apart = d.apart;
  ends = λ e there. let h = d.ends e there in record { parent = h.parent; child = h.child };
  small = d.small;
  listed = d.listed;
  table = d.table;
  acyclic = d.acyclic;
}

-- ---- its filter

module _ (t : RunTable) (new : NodeRecord) (source : ℕ) (fresh : node_by_id t new.id ≡ None) (small_new : new.id < 64)
    (filters : has_role new.kind Filtered ≡ true) (source_there : IsThere t source) (d : IsDraft t) where
  abbrev now : RunTable
  now = changed t (change.PutFilter new source)

  abbrev over : List Edge
  over = filtered_edges new.id source t.edges

  abbrev kinds : List NodeKind
  kinds = kinds_of (t.nodes ++ new ∷ [])

  is_lone : IsLone t.edges new.id
  is_lone = lone t new source fresh d.ends

  by_there : (node : ℕ) (found : Option NodeRecord) → node_by_id t node ≡ found → IsSome found → (row : NodeRecord) × (node_by_id t node ≡ Some row)
  by_there node None is some = absurd (let bad = some in cc)
  by_there node (Some row) is some = (row, is)

  row_at : (node : ℕ) → IsThere t node → (row : NodeRecord) × (node_by_id t node ≡ Some row)
  row_at node there = by_there node (node_by_id t node) refl there

  differ : new.id ≢ source
  differ same = let bad = subst IsSome (ap (node_by_id t) (sym same) ∙ fresh) source_there in cc

  still : (node : ℕ) (row : NodeRecord) → node_by_id t node ≡ Some row → find (λ (r : NodeRecord). r.id == node) (t.nodes ++ new ∷ []) ≡ Some row
  still node row is = found-longer (λ (r : NodeRecord). r.id == node) t.nodes new row is

  own_found : find (λ (r : NodeRecord). r.id == new.id) (t.nodes ++ new ∷ []) ≡ Some new
  own_found = found-new (λ (r : NodeRecord). r.id == new.id) t.nodes new fresh (eq-eqb new.id new.id refl)

  new_apart : HaveDistinctIds now
  unfolding changed
  new_apart row there = elim (pushed-cases t.nodes new row there) [
    | inl old ↦ still row.id row (d.apart row old)
    | inr is ↦ subst (λ (r : NodeRecord). find (λ (x : NodeRecord). x.id == r.id) (t.nodes ++ new ∷ []) ≡ Some r) (sym is) own_found
  ]

  there_still : (node : ℕ) → IsThere t node → IsThere now node
  unfolding changed
  there_still node there = let r = row_at node there in subst IsSome (sym (still node r.0 r.1)) refl

  new_there : IsThere now new.id
  unfolding changed
  new_there = subst IsSome (sym own_found) refl

  row_small : (node : ℕ) → IsThere t node → node < 64
  row_small node there =
      let r = row_at node there in
      let at = find-Some (λ (x : NodeRecord). x.id == node) t.nodes r.0 r.1 in
      subst (λ n. n < 64) (eqb-true r.0.id node at.1) (d.small r.0 at.0)

  kind_old : (node : ℕ) → IsThere t node → (kind_at kinds node).kind ≡ (kind_at (kinds_of t.nodes) node).kind
  unfolding changed
  kind_old node there =
      let r = row_at node there in
      let small = row_small node there in
      ap (λ (k : NodeKind). k.kind)
      (kind_by now node new_apart small ∙ ap (kind_or no_kind) (still node r.0 r.1) ∙ sym (kind_by t node d.apart small ∙ ap (kind_or no_kind) r.1))

  kind_new : (kind_at kinds new.id).kind ≡ new.kind
  unfolding changed
  kind_new = ap (λ (k : NodeKind). k.kind) (kind_by now new.id new_apart small_new ∙ ap (kind_or no_kind) own_found)

  further : (e : Edge) → IsByTable kinds e → IsByTable kinds (with_child new.id e)
  further e of = by_parent e.parent refl of
    where
      by_parent : (p : Parent) → e.parent ≡ p → IsOf kinds e p → IsOf kinds (with_child new.id e) p
      by_parent (Node node) is own = own
      by_parent (Guest guest) is own = record { guest = own.guest; writes = own.writes; share_rw = own.share_rw; is = ap (with_child new.id) own.is }
      by_parent (Job job) is own = record { job = own.job; what = own.what; is = ap (with_child new.id) own.is }

  over_table : EachIs (IsByTable kinds) over
  over_table =
      EachIs-with_filter (IsByTable kinds) source new.id idle_uses.perm idle_uses.shared t.edges further (ap (λ k. has_role k Filtered) kind_new ∙ filters)
      (λ e there. table_as (kinds_of t.nodes) kinds e (λ node from. kind_old node ((d.ends e there).parent node from)) (d.table e there))

  over_listed : IsListed over
  over_listed = IsListed-with_filter source new.id idle_uses.perm idle_uses.shared t.edges (row_small source source_there) small_new is_lone d.listed

  over_acyclic : IsAcyclic over
  over_acyclic = IsAcyclic-with_filter t.edges source new.id idle_uses.perm idle_uses.shared differ is_lone d.acyclic

  over_ends : (e : Edge) → Contains over e → HasEnds now e
  over_ends e there = elim (put_cases t new source fresh d.ends e there) [
    | inr is ↦ record {
      parent = λ node from.
          let both : Node new.id ≡ Node node = sym (ap (λ (x : Edge). x.parent) is) ∙ from in
          let same : new.id ≡ node = cc both in
          subst (IsThere now) same new_there;
      child = subst (IsThere now) (sym (ap (λ (x : Edge). x.child) is)) (there_still source source_there);
    }
    | inl p ↦
        let h = d.ends p.edge p.there in
        record {
          parent = λ node from. there_still node (h.parent node (sym p.parent ∙ from));
          child = elim p.how [
            | inl same ↦ subst (IsThere now) (sym (ap (λ (x : Edge). x.child) same.0)) (there_still p.edge.child h.child)
            | inr moved ↦ subst (IsThere now) (sym moved.0) new_there
          ];
        }
  ]

  now_small : HaveSmallIds now
  unfolding changed
  now_small row there = elim (pushed-cases t.nodes new row there) [
    | inl old ↦ d.small row old
    | inr is ↦ subst (λ (r : NodeRecord). r.id < 64) (sym is) small_new
  ]

  pub put_draft : IsDraft now
  unfolding changed
  put_draft = record {
    apart = new_apart;
    ends = derived_ends t now kinds over refl over_ends;
    small = now_small;
    listed = derived_listed kinds over over_listed over_table over_acyclic;
    table = derived_table kinds over over_listed over_table over_acyclic;
    acyclic = derived_acyclic kinds over over_listed over_table over_acyclic;
  }

-- ---- its edges

module _ (t : RunTable) (slot : ℕ) (what : JobUse) (node : ℕ) (small_slot : slot < 16) (there : IsThere t node) (small_node : node < 64) (d : IsDraft t) where
  abbrev with_use : List Edge
  with_use = with_edge (job_edge slot what node) t.edges

  abbrev used : RunTable
  used = changed t (change.UseNode slot what node)

  use_table : EachIs (IsByTable (kinds_of t.nodes)) with_use
  use_table = EachIs-with_edge (IsByTable (kinds_of t.nodes)) (job_edge slot what node) t.edges (record { job = slot; what = what; is = refl }) d.table

  may_stand : MayStand (job_edge slot what node)
  may_stand = record { role = by_use what; number = small_slot; child = small_node }
    where
      by_use : (w : JobUse) → may_have (Job slot) (job_role w) ≡ true
      by_use CopyTarget = refl
      by_use CommitTop = refl
      by_use CommitBetween = refl
      by_use CommitBase = refl
      by_use StreamTop = refl
      by_use StreamBelow = refl

  use_listed : IsListed with_use
  use_listed = IsListed-with_edge (job_edge slot what node) t.edges may_stand d.listed

  use_acyclic : IsAcyclic with_use
  use_acyclic = acyclic_put (job_edge slot what node) t.edges (λ never. never) d.acyclic

  use_ends : (e : Edge) → Contains with_use e → HasEnds t e
  use_ends e at = elim (Contains-with_edge (job_edge slot what node) t.edges e at) [
    | inl is ↦ record {
      parent = λ n from. absurd (let bad : Job slot ≡ Node n = sym (ap (λ (x : Edge). x.parent) is) ∙ from in cc bad);
      child = subst (IsThere t) (sym (ap (λ (x : Edge). x.child) is)) there;
    }
    | inr old ↦ d.ends e old
  ]

  pub use_draft : IsDraft used
  unfolding changed
  use_draft = record {
    apart = d.apart;
    ends = derived_ends t used (kinds_of t.nodes) with_use refl (λ e at. let h = use_ends e at in record { parent = h.parent; child = h.child });
    small = d.small;
    listed = derived_listed (kinds_of t.nodes) with_use use_listed use_table use_acyclic;
    table = derived_table (kinds_of t.nodes) with_use use_listed use_table use_acyclic;
    acyclic = derived_acyclic (kinds_of t.nodes) with_use use_listed use_table use_acyclic;
  }

  pub use_refreshed : IsRefreshed (kinds_of used.nodes) used.edges
  unfolding changed
  use_refreshed = IsRefreshed-refreshed (kinds_of t.nodes) with_use use_listed use_acyclic

-- a node that is there has a small id
pub small_there : (t : RunTable) → HaveSmallIds t → (node : ℕ) → IsThere t node → node < 64
small_there t small node there = by_found (node_by_id t node) refl there
  where
    by_found : (found : Option NodeRecord) → node_by_id t node ≡ found → IsSome found → node < 64
    by_found None is some = absurd (let bad = some in cc)
    by_found (Some row) is some =
        let at = find-Some (λ (x : NodeRecord). x.id == node) t.nodes row is in
        subst (λ n. n < 64) (eqb-true row.id node at.1) (small row at.0)

-- several of them, of which the last was derived
pub record IsDrawnDraft (t : RunTable) : Type 0 where
  pub draft : IsDraft t
  pub refreshed : IsRefreshed (kinds_of t.nodes) t.edges

one_use : (t : RunTable) (slot : ℕ) (u : UseOf) → slot < 16 → IsThere t u.node → IsDraft t → IsDrawnDraft (changed t (change_of slot u))
one_use t slot u small there d = record {
  draft = use_draft t slot u.what u.node small there (small_there t d.small u.node there) d;
  refreshed = use_refreshed t slot u.what u.node small there (small_there t d.small u.node there) d;
}

still_there : (t : RunTable) (slot : ℕ) (u : UseOf) (node : ℕ) → IsThere t node → IsThere (changed t (change_of slot u)) node
unfolding changed
still_there t slot u node there = there

more_uses : (uses : List UseOf) (t : RunTable) (slot : ℕ) → slot < 16 → ((u : UseOf) → Contains uses u → IsThere t u.node) → IsDrawnDraft t
    → IsDrawnDraft (all_changed t (map (change_of slot) uses))
more_uses [] t slot small there d = d
more_uses (u ∷ uses) t slot small there d =
    more_uses uses (changed t (change_of slot u)) slot small (λ v at. still_there t slot u v.node (there v (Contains-there u uses v at)))
    (one_use t slot u small (there u (Contains-here u uses)) d.draft)

pub all_uses : (u : UseOf) (uses : List UseOf) (t : RunTable) (slot : ℕ) → slot < 16 → ((v : UseOf) → Contains (u ∷ uses) v → IsThere t v.node) → IsDraft t
    → IsDrawnDraft (all_changed t (map (change_of slot) (u ∷ uses)))
all_uses u uses t slot small there d =
    more_uses uses (changed t (change_of slot u)) slot small (λ v at. still_there t slot u v.node (there v (Contains-there u uses v at)))
    (one_use t slot u small (there u (Contains-here u uses)) d)

-- ---- the rule

conflict_none : (t : RunTable) (found : Option Conflict) → option_map (conflict_refusal t) found ≡ None → found ≡ None
conflict_none t None h = refl
conflict_none t (Some pair) h = absurd cc

pub drawn_by : (t : RunTable) → IsDrawnDraft t → conflict_in t ≡ None → EdgesAreDrawn t
unfolding conflict_in
drawn_by t d quiet = record {
  listed = d.draft.listed;
  table = d.draft.table;
  refreshed = d.refreshed;
  rule = (judged-None (node_ids t) t.edges (conflict_none t (first_conflict (node_ids t) t.edges) quiet) children).0 refl;
}
  where
    children : (e : Edge) → Contains t.edges e → Contains (node_ids t) e.child
    children e there = by_found (node_by_id t e.child) refl (d.draft.ends e there).child
      where
        by_found : (found : Option NodeRecord) → node_by_id t e.child ≡ found → IsSome found → Contains (node_ids t) e.child
        by_found None is some = absurd (let bad = some in cc)
        by_found (Some row) is some =
            let at = find-Some (λ (x : NodeRecord). x.id == e.child) t.nodes row is in
            subst (Contains (node_ids t)) (eqb-true row.id e.child at.1) (map-Contains (λ (x : NodeRecord). x.id) t.nodes row at.0)
