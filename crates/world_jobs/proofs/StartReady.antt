-- A backup or a mirror that nothing refuses can be started: its nodes and its bitmap are there, and its filter may be put.
use Rattle.std.proofs.Common.{◌≡◌, ◌≢◌, ◌⊎◌, ℕ, ◌+◌, ◌<◌, ◌≤◌, Bool, true, false, List, [], ◌∷◌, ◌++◌, length, map, Option, Some, None, refl, sym, ◌∙◌, ap, subst, arith, inl, inr}
use Rattle.std.specs.Prelude.{◌==◌, Contains, IsSome, bytes_eq, find, is_none, option_and_then, option_map, unwrap_or}
use Rattle.std.proofs.lemmas.Bool.{cases_lt, eqb-true, false≢true}
use Rattle.std.proofs.lemmas.List.{length-map}
use Rattle.std.proofs.lemmas.Option.{same_Some}
use Rattle.blk_bitmaps.specs.Refusals.{busy_refusal, find as find_bitmap, use_refusal}
use Rattle.blk_bitmaps.specs.declared.row.Bitmap.{Bitmap}
use Rattle.blk_graph.specs.Graph.{HasName, NodeRow, ids}
use Rattle.blk_graph.specs.Ids.{IsLowestFree, lowest_free}
use Rattle.blk_graph.specs.declared.kind.Kind.{Kind}
use Rattle.blk_graph.proofs.IdLemmas.{lowest_free-is}
use Rattle.blk_graph.proofs.Members.{Contains-map, find-Some}
use Rattle.blk_graph.proofs.RuleLemmas.{find-None}
use Rattle.blk_nodes.specs.Adding.{filtering_row, with_node_row}
use Rattle.blk_nodes.specs.Joined.{IsJoined}
use Rattle.blk_nodes.specs.Nodes.{Nodes, filter_kind}
use Rattle.blk_nodes.specs.Rewiring.{IsWiring}
use Rattle.blk_nodes.specs.declared.row.FilterKind.{FilterKind}
use Rattle.flat_machine.specs.Bitmaps.{AreBitmapsOf, bitmap_of}
use Rattle.flat_machine.specs.Suiting.{IsPlainNode}
use Rattle.flat_machine.specs.Wiring.{TableAtRest, TableStands}
use Rattle.flat_machine.proofs.Asked.{found-named, not-refused, room-left}
use Rattle.flat_machine.proofs.BitmapRows.{found-bitmap}
use Rattle.flat_machine.proofs.Finds.{bytes_eq-same}
use Rattle.flat_machine.proofs.Fresh.{lowest_free-free}
use Rattle.job_commands.specs.Begun.{CopyCmd, OfBackup, OfMirror, cmd_of, copy_job}
use Rattle.job_entries.proofs.Commands.{accepted_at_rest}
use Rattle.job_tables.specs.Accepted.{Begins, IsMet, JobsAreDrawn, JobsGoOn}
use Rattle.job_tables.specs.Starts.{CopyBegins}
use Rattle.job_tables.proofs.Slots.{free_apart, lowest_below}
use Rattle.job_tables.proofs.CopyBegins.{CopyAsked}
use Rattle.job_tables.proofs.StartCommands.{accepted_met}
use Rattle.qmp_asks.specs.declared.ask.Ask.TheVariants as ask
use Rattle.qmp_rules.specs.Answers.{refusal_to, told_none}
use Rattle.qmp_rules.specs.Asks.{busy, holds, if_there}
use Rattle.qmp_rules.specs.Changes.{all_changed}
use Rattle.qmp_rules.specs.Edits.{filter_row, free_id, node_ids}
use Rattle.qmp_rules.specs.Queries.{bytes_of_node}
use Rattle.qmp_rules.specs.Table.{RunTable, bitmap_at, bitmap_named, id_named, job_id, kinds_of, node_by_id, node_named}
use Rattle.qmp_rules.specs.declared.change.Change.{Change}
use Rattle.qmp_rules.specs.declared.refusal.Refusal.TheVariants as refusal
use Rattle.qmp_rules.specs.declared.rows.BitmapRow.{BitmapRow}
use Rattle.qmp_rules.specs.declared.rows.JobRecord.{JobRecord}
use Rattle.qmp_rules.specs.declared.rows.NodeRecord.{NodeRecord}
use Rattle.world_jobs.specs.Beginning.{IsUsable}
use Rattle.world_jobs.specs.Filtering.{filter_of}
use Rattle.world_jobs.specs.Plans.{Plan, plan_of}
use Rattle.world_jobs.specs.Starting.{CanStart, FilterFits, StartFits, name_of, started_table}
use Rattle.world_jobs.proofs.CopyPlans.{IsRowOfPlan, planned_asks, planned_edits, planned_row}
use Rattle.world_jobs.proofs.StartTables.{IsStartTable, own, source_there, start_is, start_table}
use Rattle.world_jobs.proofs.StartWired.{start_wiring}
use Rattle.world_goings.proofs.CopyStarts.{backup_met, command_starts, copy_begins, copy_drawn, copy_shape, edits_start}
use Rattle.world_parts.specs.Coherent.{AreNodesOf, node_row}
use Rattle.world_parts.proofs.DrawnEdges.{drawn_by_nodes}

unmapped : {A B : Type 0} (f : A → B) (o : Option A) → option_map f o ≡ None → o ≡ None
unmapped f None none = refl
unmapped f (Some a) none = absurd cc

-- ---- its bitmap

module _ (t : RunTable) (device : List ℕ) (source : NodeRecord) (source_is : node_named t device ≡ Some source) (rows : List Bitmap) (was : AreBitmapsOf t.bitmaps rows) where
  usable : (bitmap : Option (List ℕ)) → holds t told_none (ask.BitmapFound device bitmap) ≡ None → holds t told_none (ask.BitmapFree device bitmap) ≡ None
      → IsUsable rows source.id bitmap
  unfolding holds
  usable None there free = tt
  usable (Some name) there free = by_found (find_bitmap rows source.id name) refl
    where
      id : id_named t device ≡ Some source.id
      id = ap (option_map (λ (r : NodeRecord). r.id)) source_is

      at : bitmap_named t device name ≡ option_map bitmap_of (find_bitmap rows source.id name)
      at = ap (option_and_then (λ i. bitmap_at t i name)) id ∙ found-bitmap source.id name t.bitmaps rows was

      by_found : (found : Option Bitmap) → find_bitmap rows source.id name ≡ found → use_refusal found ≡ None
      by_found None is =
          let bad = sym (not-refused _ _ there) ∙ ap (λ (o : Option BitmapRow). is_none o) (at ∙ ap (option_map bitmap_of) is) in
          absurd (false≢true bad)
      by_found (Some bitmap) is =
          let one : bitmap_named t device name ≡ Some (bitmap_of bitmap) = at ∙ ap (option_map bitmap_of) is in
          let idle : bitmap.busy ≡ None
          = unmapped (λ job. refusal.BitmapBusy bitmap.name.bytes (job_id t job)) bitmap.busy (sym (ap (if_there (busy t)) one) ∙ free) in
          ap busy_refusal idle

-- a mirror copies by none
plan_usable : (t : RunTable) (c : CopyCmd) → IsMet t told_none (cmd_of c) → (source : NodeRecord) → node_named t (plan_of c).device ≡ Some source → (rows : List Bitmap)
    → AreBitmapsOf t.bitmaps rows → IsUsable rows source.id (plan_of c).bitmap
plan_usable t (OfBackup c) met source is rows was =
    let asked = (backup_met t told_none c met).1 in
    usable t c.device source is rows was c.bitmap asked.1.1.0 asked.1.1.1.1.1.1.1.1.1.1.0
plan_usable t (OfMirror c) met source is rows was = tt

module _ (t : RunTable) (rests : TableAtRest t) (jobs : JobsGoOn t) (c : CopyCmd) (none : refusal_to t told_none (cmd_of c) ≡ None) where
  abbrev h : TableStands t
  h = rests.stands

  abbrev row : JobRecord
  row = copy_job t c

  abbrev plan : Plan
  plan = plan_of c

  of : IsRowOfPlan t (plan_of c) (copy_job t c)
  of = planned_row t c

  met : IsMet t told_none (cmd_of c)
  met = (accepted_met t told_none (cmd_of c) none).1

  asked : CopyAsked t told_none plan.device plan.target
  asked = planned_asks t told_none c met

  source : (found : NodeRecord) × (node_named t plan.device ≡ Some found)
  source = found-named t told_none plan.device asked.device_found

  target : (found : NodeRecord) × (node_named t plan.target ≡ Some found)
  target = found-named t told_none plan.target asked.target_found

  room : length t.nodes + 1 ≤ 64
  room = room-left t told_none 1 asked.nodes

  by_id : (name : List ℕ) (found : NodeRecord) → node_named t name ≡ Some found → node_by_id t found.id ≡ Some found
  by_id name found is = h.apart found (find-Some (λ (r : NodeRecord). bytes_eq r.name name) t.nodes found is).0

  pub can_start : (rows : List Bitmap) → AreBitmapsOf t.bitmaps rows → CanStart t rows (plan_of c)
  can_start rows was = record {
    kind = of.copies;
    source = source.0;
    source_is = source.1;
    source_at = by_id plan.device source.0 source.1;
    target = target.0;
    target_is = target.1;
    usable = plan_usable t c met source.0 source.1 rows was;
  }

  -- ---- its filter

  module _ (nodes : Nodes) (alike : AreNodesOf t nodes) (joined : IsJoined nodes) where
    drawn : JobsAreDrawn t
    drawn = let edges = drawn_by_nodes t nodes h.apart alike joined in record { jobs = jobs; edges = edges.0; small = edges.1 }

    drawn_then : JobsAreDrawn (started_table t c)
    drawn_then =
        subst (λ (cs : List Change). JobsAreDrawn (all_changed t cs)) (edits_start t told_none c ∙ sym (command_starts t told_none c))
        (copy_drawn t told_none h drawn c met)

    begins : Begins t row
    begins = copy_begins t told_none h jobs.stand jobs.run drawn.edges c met

    copies : CopyBegins t row
    copies = copy_shape t c begins.job

    abbrev filter : FilterKind
    filter = filter_of (plan_of c).kind

    abbrev driver : Kind
    driver = filter_kind (filter_of (plan_of c).kind)

    abbrev source_plain : IsPlainNode t row.source
    source_plain = source_there t h jobs.stand row begins.job copies driver (planned_edits t c)

    rests_then : TableAtRest (started_table t c)
    rests_then = accepted_at_rest t told_none told_none (cmd_of c) rests drawn none

    abbrev new : NodeRecord
    new = own t h jobs.stand row begins.job copies driver (planned_edits t c)

    under : NodeRecord
    under = source_plain.row

    put : IsStartTable t (started_table t c) new.id row.source new
    put =
        subst (λ (u : RunTable). IsStartTable t u new.id row.source new)
        (sym (ap (all_changed t) (command_starts t told_none c) ∙ start_is t h jobs.stand row begins.job copies driver (planned_edits t c)))
        (start_table t h jobs.stand row begins.job copies driver (planned_edits t c))

    source_same : (found : NodeRecord) → node_named t plan.device ≡ Some found → (row.source ≡ found.id) × (found ≡ source_plain.row)
    source_same found is =
        let id : row.source ≡ found.id = of.source ∙ ap (λ (o : Option NodeRecord). unwrap_or (option_map (λ (r : NodeRecord). r.id) o) 0) is in
        (id, same_Some found _ (sym (by_id plan.device found is) ∙ ap (node_by_id t) (sym id) ∙ source_plain.there))

    -- ---- its id

    same_ids : ids nodes.graph ≡ node_ids t
    same_ids = ap (map (λ (r : NodeRow). r.id)) alike.listed ∙ twice t.nodes
      where
        twice : (rows : List NodeRecord) → map (λ (r : NodeRow). r.id) (map node_row rows) ≡ map (λ (r : NodeRecord). r.id) rows
        twice [] = refl
        twice (r ∷ rows) = ap (λ (xs : List ℕ). r.id ∷ xs) (twice rows)

    few_ids : length (node_ids t) < 64
    few_ids = let same : length (node_ids t) ≡ length t.nodes = simp length-map in omega (arith, same, room)

    id_is : (id : ℕ) → IsLowestFree (ids nodes.graph) id → id ≡ free_id t
    id_is id lowest = sym (lowest_free-is (node_ids t) id (small (cases_lt id 64)) among)
      where
        among : IsLowestFree (node_ids t) id
        among = subst (λ (taken : List ℕ). IsLowestFree taken id) same_ids lowest

        small : (id < 64) ⊎ (64 ≤ id) → id < 64
        small (inl less) = less
        small (inr most) =
            let below = lowest_below 64 (node_ids t) few_ids in
            let taken = among.lowest (lowest_free (node_ids t)) (omega (arith, below, most)) in
            absurd (free_apart (node_ids t) (lowest_free (node_ids t)) (lowest_free (node_ids t)) (lowest_free-free (node_ids t) few_ids) taken refl)

    -- ---- its name

    unnamed : (name : List ℕ) → node_named t name ≡ None → HasName nodes.graph name → ⊥
    unnamed name is has =
        let r = Contains-map (λ (r : NodeRow). r.name) nodes.graph.nodes name has in
        let from = Contains-map node_row t.nodes r.0 (subst (λ (rows : List NodeRow). Contains rows r.0) alike.listed r.1) in
        let named : name ≡ from.0.name = r.2 ∙ ap (λ (x : NodeRow). x.name) from.2 in
        let other = find-None (λ (x : NodeRecord). bytes_eq x.name name) t.nodes is from.0 from.1 in
        false≢true (sym other ∙ ap (λ (n : List ℕ). bytes_eq n name) (sym named) ∙ bytes_eq-same name)

    few_nodes : length nodes.graph.nodes < 64
    few_nodes =
        let listed : length nodes.graph.nodes ≡ length (map node_row t.nodes) = ap (λ (rows : List NodeRow). length rows) alike.listed in
        let same : length (map node_row t.nodes) ≡ length t.nodes = simp length-map in
        omega (arith, listed, same, room)

    -- ---- its edges

    wiring : (name : List ℕ) (found : NodeRecord) → node_named t plan.device ≡ Some found → (id : ℕ) → IsLowestFree (ids nodes.graph) id
        → IsJoined (with_node_row nodes id name (filtering_row filter found.size found.read_only))
        → IsWiring (with_node_row nodes id name (filtering_row filter found.size found.read_only)) (kinds_of (started_table t c).nodes) (started_table t c).edges
    unfolding under
    wiring name found is id lowest =
        subst (λ (r : NodeRecord). Wires id r) (sym (source_same found is).1) (subst (λ (n : ℕ). Wires n under) (sym (id_is id lowest)) wired)
      where
        Wires : ℕ → NodeRecord → Type 0
        Wires id r = IsJoined (with_node_row nodes id name (filtering_row filter r.size r.read_only))
            → IsWiring (with_node_row nodes id name (filtering_row filter r.size r.read_only)) (kinds_of (started_table t c).nodes) (started_table t c).edges

        wired : Wires (free_id t) under
        wired after =
            start_wiring t (started_table t c) nodes name row.source new under h alike joined source_plain
            source_plain.there copies.filter.fresh (lowest_below 64 (node_ids t) few_ids) filter refl refl put rests_then.stands drawn_then.edges
            after

    -- ---- all of it

    kept_size : (found : NodeRecord) → node_named t plan.device ≡ Some found → bytes_of_node (started_table t c) found.id ≡ bytes_of_node t found.id
    kept_size found is =
        let at = by_id plan.device found is in
        let apart : found.id ≢ new.id = λ same. (let bad = sym at ∙ ap (node_by_id t) same ∙ copies.filter.fresh in let never : ⊥ = cc bad in never) in
        let then_ : node_by_id (started_table t c) found.id ≡ Some (put.f found) = put.found found.id apart ∙ ap (option_map put.f) at in
        ap (λ (o : Option NodeRecord). unwrap_or (option_map (λ (r : NodeRecord). r.size) o) 0) then_ ∙ (put.same found).size
        ∙ sym (ap (λ (o : Option NodeRecord). unwrap_or (option_map (λ (r : NodeRecord). r.size) o) 0) at)

    pub start_fits : StartFits t nodes c (plan_of c)
    start_fits = record {
      filter = λ found is fresh. record { fresh = unnamed (name_of (plan_of c)) fresh; few = few_nodes; wiring = wiring (name_of (plan_of c)) found is };
      id = id_is;
      there = λ found is.
          put.new
          ∙ ap (λ (r : NodeRecord). Some (filter_row t driver row.id r)) (sym (source_same found is).1)
          ∙ ap (λ (id : List ℕ). Some (filter_row t driver id found)) of.id;
      size = kept_size;
    }
