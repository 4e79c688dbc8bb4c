-- The table behind the start of a backup or a mirror: its target has no flat disk, and its filter is there, between its source and the source's parents.
use Rattle.std.proofs.Common.{◌≡◌, ◌≢◌, ℕ, Bool, true, false, cond, List, [], ◌∷◌, ◌++◌, map, Option, Some, None, refl, sym, ◌∙◌, ap, subst}
use Rattle.std.specs.Prelude.{◌==◌, IsSome, find, option_map}
use Rattle.std.proofs.lemmas.Bool.{eq-eqb, eqb-true, ne_eqb}
use Rattle.blk_graph.specs.declared.edge.Edge.{Edge}
use Rattle.blk_graph.specs.declared.edge.Parent.TheVariants.{Job, Node}
use Rattle.blk_graph.specs.declared.edge.Role.{Role}
use Rattle.blk_graph.specs.declared.edge.Role.TheVariants.{Between, Filtered}
use Rattle.blk_graph.specs.declared.kind.JobUse.TheVariants.{CopyTarget}
use Rattle.blk_graph.specs.declared.kind.Kind.{Kind}
use Rattle.blk_graph.specs.declared.kind.NodeKind.{NodeKind}
use Rattle.blk_graph.specs.Edits.{IsLone, child_moved, child_of, with_edge}
use Rattle.blk_graph.specs.Permissions.{idle_uses, job_edge}
use Rattle.blk_graph.specs.Refreshed.{refreshed}
use Rattle.blk_graph.proofs.ChildLemmas.{child-kept}
use Rattle.blk_graph.proofs.DraftLemmas.{child_filter, children_filter}
use Rattle.blk_graph.proofs.Members.{find-Some}
use Rattle.blk_graph.proofs.RefreshLemmas.{child_of-refreshed}
use Rattle.qmp_rules.specs.Asks.{is_file}
use Rattle.qmp_rules.specs.Changes.{all_changed, changed, filtered_edges, node_changed, unsettled, with_unsettled}
use Rattle.qmp_rules.specs.Edits.{copy_edits, device_uses, file_used, file_uses, filter_edits, filter_row, free_id, of_row, start_edits, target_edits, uses_target}
use Rattle.qmp_rules.specs.Table.{RunTable, kinds_of, node_by_id}
use Rattle.qmp_rules.specs.declared.change.Change.{Change}
use Rattle.qmp_rules.specs.declared.change.Change.TheVariants as change
use Rattle.qmp_rules.specs.declared.rows.JobRecord.{JobRecord}
use Rattle.qmp_rules.specs.declared.rows.NodeRecord.{NodeRecord}
use Rattle.flat_machine.specs.Suiting.{IsPlainNode}
use Rattle.flat_machine.specs.Wiring.{HasEnds, TableStands}
use Rattle.flat_machine.proofs.Fresh.{found-new}
use Rattle.flat_machine.proofs.Redrawn.{IsSameNode}
use Rattle.flat_machine.proofs.Rows.{found_mapped}
use Rattle.job_tables.specs.Jobs.{JobsStand}
use Rattle.job_tables.specs.Starts.{CopyBegins, JobBegins}
use Rattle.job_tables.proofs.Ended.{all_changed-append}
use Rattle.job_tables.proofs.Started.{source_plain}

-- a filter was put over a source; other rows are what they were, and may be written where they might
pub record IsStartTable (t u : RunTable) (filter source : ℕ) (own : NodeRecord) : Type 0 where
  pub f : NodeRecord → NodeRecord
  pub same : (row : NodeRecord) → IsSameNode row (f row)
  pub access : (row : NodeRecord) → (f row).read_only ≡ row.read_only
  pub found : (n : ℕ) → n ≢ filter → node_by_id u n ≡ option_map f (node_by_id t n)
  pub new : node_by_id u filter ≡ Some own
  pub nodes : (n : ℕ) (role : Role) → n ≢ filter → role ≢ Between
      → child_of (Node n) role u.edges ≡ option_map (child_moved source filter) (child_of (Node n) role t.edges)
  pub over : child_of (Node filter) Filtered u.edges ≡ Some source

-- ---- rows

found_before : (rows : List NodeRecord) (new : NodeRecord) (n : ℕ) → new.id ≢ n
    → find (λ (r : NodeRecord). r.id == n) (rows ++ new ∷ []) ≡ find (λ (r : NodeRecord). r.id == n) rows
found_before [] new n apart = rw (ne_eqb new.id n apart) refl
found_before (row ∷ rows) new n apart = by_test (row.id == n) (found_before rows new n apart)
  where
    by_test : (b : Bool) → find (λ (r : NodeRecord). r.id == n) (rows ++ new ∷ []) ≡ find (λ (r : NodeRecord). r.id == n) rows
        → cond b (Some row) (find (λ (r : NodeRecord). r.id == n) (rows ++ new ∷ [])) ≡ cond b (Some row) (find (λ (r : NodeRecord). r.id == n) rows)
    by_test true rest = refl
    by_test false rest = rest

unsettled_same : (id : ℕ) (row : NodeRecord) → IsSameNode row (node_changed id unsettled row)
unsettled_same id row = by_test (row.id == id)
  where
    by_test : (b : Bool) → IsSameNode row (cond b (unsettled row) row)
    by_test true = record { id = refl; kind = refl; size = refl; offset = refl }
    by_test false = record { id = refl; kind = refl; size = refl; offset = refl }

unsettled_access : (id : ℕ) (row : NodeRecord) → (node_changed id unsettled row).read_only ≡ row.read_only
unsettled_access id row = by_test (row.id == id)
  where
    by_test : (b : Bool) → (cond b (unsettled row) row).read_only ≡ row.read_only
    by_test true = refl
    by_test false = refl

-- ---- that a file is used changes neither rows nor edges

named_same : (t : RunTable) (name : Option (List ℕ)) → ((all_changed t (file_uses name)).nodes ≡ t.nodes) × ((all_changed t (file_uses name)).edges ≡ t.edges)
unfolding changed
named_same t None = (refl, refl)
named_same t (Some name) = (refl, refl)

used_same : (t : RunTable) (found : Option NodeRecord)
    → ((all_changed t (of_row device_uses found)).nodes ≡ t.nodes) × ((all_changed t (of_row device_uses found)).edges ≡ t.edges)
used_same t None = (refl, refl)
used_same t (Some row) = by_file (is_file row)
  where
    by_file : (b : Bool) → ((all_changed t (cond b (file_uses row.filename) [])).nodes ≡ t.nodes) × ((all_changed t (cond b (file_uses row.filename) [])).edges ≡ t.edges)
    by_file true = named_same t row.filename
    by_file false = (refl, refl)

-- ---- the start

module _ (t : RunTable) (h : TableStands t) (j : JobsStand t) (row : JobRecord) (b : JobBegins t row) (c : CopyBegins t row) (driver : Kind)
    (copies : start_edits t row ≡ copy_edits t driver row) where
  pub source_there : IsPlainNode t row.source
  source_there = source_plain t h j row b

  abbrev pub own : NodeRecord
  own = filter_row t driver row.id source_there.row

  abbrev first : RunTable
  first = all_changed t (target_edits t (Some c.target))

  first_is : first ≡ changed (all_changed t (file_used t (Some c.target))) (change.Unsettle c.target)
  first_is = all_changed-append t (file_used t (Some c.target)) (change.Unsettle c.target ∷ [])

  unsettled_rows : (x : RunTable) → (changed x (change.Unsettle c.target)).nodes ≡ map (node_changed c.target unsettled) x.nodes
  unfolding changed
  unsettled_rows x = refl

  unsettled_edges : (x : RunTable) → (changed x (change.Unsettle c.target)).edges ≡ x.edges
  unfolding changed
  unsettled_edges x = refl

  first_rows : first.nodes ≡ map (node_changed c.target unsettled) t.nodes
  first_rows =
      ap (λ (x : RunTable). x.nodes) first_is ∙ unsettled_rows (all_changed t (file_used t (Some c.target)))
      ∙ ap (map (node_changed c.target unsettled)) (used_same t (node_by_id t c.target)).0

  first_edges : first.edges ≡ t.edges
  first_edges = ap (λ (x : RunTable). x.edges) first_is ∙ unsettled_edges (all_changed t (file_used t (Some c.target))) ∙ (used_same t (node_by_id t c.target)).1

  abbrev ready : RunTable
  ready = changed first (change.PutFilter own row.source)

  abbrev last : RunTable
  last = changed (changed ready (change.StartJob row)) (change.UseNode row.slot CopyTarget c.target)

  filter_is : filter_edits t driver row ≡ change.PutFilter own row.source ∷ []
  filter_is =
      ap (of_row (λ r. change.PutFilter (filter_row t driver row.id r) r.id ∷ [])) source_there.there
      ∙ ap (λ n. change.PutFilter own n ∷ []) (eqb-true source_there.row.id row.source (find-Some (λ (r : NodeRecord). r.id == row.source) t.nodes source_there.row source_there.there).1)

  pub start_is : all_changed t (start_edits t row) ≡ last
  start_is =
      ap (all_changed t) copies
      ∙ ap (λ (o : Option ℕ). all_changed t (target_edits t o ++ filter_edits t driver row ++ change.StartJob row ∷ uses_target row o)) c.is_target
      ∙ all_changed-append t (target_edits t (Some c.target) ++ filter_edits t driver row) (change.StartJob row ∷ uses_target row (Some c.target))
      ∙ ap (λ (x : RunTable). all_changed x (change.StartJob row ∷ uses_target row (Some c.target)))
      (all_changed-append t (target_edits t (Some c.target)) (filter_edits t driver row) ∙ ap (all_changed first) filter_is)

  -- ---- its rows

  last_rows : last.nodes ≡ first.nodes ++ own ∷ []
  unfolding changed
  last_rows = refl

  first_found : (n : ℕ) → node_by_id first n ≡ option_map (node_changed c.target unsettled) (node_by_id t n)
  first_found = found_mapped t first (node_changed c.target unsettled) (λ (r : NodeRecord). (unsettled_same c.target r).id) first_rows

  rows_found : (n : ℕ) → n ≢ own.id → node_by_id last n ≡ option_map (node_changed c.target unsettled) (node_by_id t n)
  rows_found n apart =
      ap (find (λ (r : NodeRecord). r.id == n)) last_rows ∙ found_before first.nodes own n (λ same. apart (sym same)) ∙ first_found n

  own_fresh : node_by_id first own.id ≡ None
  own_fresh = first_found own.id ∙ ap (option_map (node_changed c.target unsettled)) c.filter.fresh

  own_found : node_by_id last own.id ≡ Some own
  own_found =
      ap (find (λ (r : NodeRecord). r.id == own.id)) last_rows
      ∙ found-new (λ (r : NodeRecord). r.id == own.id) first.nodes own own_fresh (eq-eqb own.id own.id refl)

  -- ---- its edges

  abbrev put : List Edge
  put = filtered_edges own.id row.source first.edges

  ready_edges : ready.edges ≡ refreshed (kinds_of (first.nodes ++ own ∷ [])) put
  unfolding changed
  ready_edges = refl

  last_edges : last.edges ≡ refreshed (kinds_of (first.nodes ++ own ∷ [])) (with_edge (job_edge row.slot CopyTarget c.target) ready.edges)
  unfolding changed
  last_edges = refl

  lone : IsLone t.edges own.id
  lone = record {
    enters = λ e there at. absent e.child (h.edges e there).child at;
    leaves = λ e there from. absent own.id ((h.edges e there).parent own.id from) refl;
  }
    where
      absent : (n : ℕ) → IsSome (node_by_id t n) → n ≢ own.id
      absent n some same = let none = ap (node_by_id t) same ∙ c.filter.fresh in let bad = subst IsSome none some in cc bad

  child_ready : (n : ℕ) (role : Role) → child_of (Node n) role last.edges ≡ child_of (Node n) role put
  child_ready n role =
      ap (child_of (Node n) role) last_edges
      ∙ child_of-refreshed (kinds_of (first.nodes ++ own ∷ [])) (Node n) role (with_edge (job_edge row.slot CopyTarget c.target) ready.edges)
      ∙ child-kept (Node n) role (job_edge row.slot CopyTarget c.target) ready.edges (λ same. let bad : ⊥ = cc same in bad)
      ∙ ap (child_of (Node n) role) ready_edges
      ∙ child_of-refreshed (kinds_of (first.nodes ++ own ∷ [])) (Node n) role put

  pub start_table : IsStartTable t last own.id row.source own
  start_table = record {
    f = node_changed c.target unsettled;
    same = unsettled_same c.target;
    access = unsettled_access c.target;
    found = rows_found;
    new = own_found;
    nodes = λ n role apart single.
        child_ready n role
        ∙ children_filter row.source own.id idle_uses.perm idle_uses.shared first.edges (Node n) role single
        (λ same. apart (let both : Node n ≡ Node own.id = same in let one : n ≡ own.id = cc both in one))
        ∙ ap (λ (es : List Edge). option_map (child_moved row.source own.id) (child_of (Node n) role es)) first_edges;
    over = child_ready own.id Filtered
        ∙ child_filter row.source own.id idle_uses.perm idle_uses.shared first.edges (subst (λ (es : List Edge). IsLone es own.id) (sym first_edges) lone);
  }
