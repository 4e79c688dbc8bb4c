-- Jobs stand and run behind a creation of which a call failed, and behind a guest's write.
use Rattle.std.proofs.Common.{◌≡◌, ◌⊎◌, ℕ, Bool, true, false, cond, List, [], ◌∷◌, ◌++◌, refl, sym, ap, subst, ◌∙◌, inl, inr, Option, Some, None}
use Rattle.std.specs.Prelude.{codes}
use Rattle.std.specs.List.{Contains}
use Rattle.blk_graph.proofs.Members.{Contains-map}
use Rattle.qmp_codec.specs.declared.command.Command.TheVariants as command
use Rattle.qmp_codec.specs.declared.nodes.BlockdevCreate.{BlockdevCreate}
use Rattle.qmp_codec.specs.declared.nodes.Created.{Created}
use Rattle.qmp_codec.specs.declared.nodes.Created.TheVariants as created
use Rattle.qmp_asks.specs.declared.ask.Ask.TheVariants as ask
use Rattle.qmp_asks.specs.declared.ask.Drivers.TheVariants as drivers
use Rattle.qmp_asks.specs.declared.look.Look.TheVariants as look
use Rattle.qmp_asks.specs.Asking.{Asking}
use Rattle.qmp_asks.specs.CommandAsks.{asks_of}
use Rattle.qmp_asks.specs.NodeAsks.{create_values, create_names, create_rest, create_asks}
use Rattle.qmp_rules.specs.declared.refusal.Refusal.{Refusal}
use Rattle.qmp_rules.specs.declared.refusal.Refusal.TheVariants as refusal
use Rattle.qmp_rules.specs.declared.rows.NodeRecord.{NodeRecord}
use Rattle.qmp_rules.specs.declared.rows.JobRecord.{JobRecord}
use Rattle.qmp_rules.specs.declared.told.Told.{Told}
use Rattle.qmp_rules.specs.Answers.{out_of_turn, refusal_to}
use Rattle.qmp_rules.specs.Asks.{holds, first_unmet_ask}
use Rattle.qmp_rules.specs.Chains.{is_over, unsettled_over, written_under}
use Rattle.qmp_rules.specs.Changes.{all_changed}
use Rattle.qmp_rules.specs.Edits.{file_of_node, spoiled}
use Rattle.qmp_rules.specs.Places.{IsOfTable}
use Rattle.qmp_rules.specs.Refusals.{place_of, or_else}
use Rattle.qmp_rules.specs.Table.{RunTable}
use Rattle.qmp_rules.proofs.PlaceLemmas.{has_place}
use Rattle.flat_machine.specs.State.{State}
use Rattle.flat_machine.specs.Changed.{all_stepped}
use Rattle.flat_machine.specs.Suiting.{IsAlone, AllTableSuit}
use Rattle.flat_machine.specs.Wiring.{TableStands}
use Rattle.flat_machine.proofs.Accepted.{none-over}
use Rattle.flat_machine.proofs.Asked.{NoneHolds, none-stands}
use Rattle.flat_machine.proofs.Rows.{rows-mapped, like_over}
use Rattle.flat_machine.proofs.TableRests.{all_keep}
use Rattle.flat_machine.proofs.TableSuited.{NamedFile, named-file}
use Rattle.job_tables.specs.Accepted.{JobsAreDrawn}
use Rattle.job_tables.specs.Jobs.{JobsStand}
use Rattle.job_tables.specs.Changes.{AllLeaveJobs}
use Rattle.job_tables.specs.Running.{IsFreeFile, JobsRun, AllLeaveDisks}
use Rattle.job_tables.specs.TargetFiles.{TargetFilesStand}
use Rattle.job_tables.proofs.Changes.{rows_stand, changes_leave_jobs}
use Rattle.job_tables.proofs.DrawnChanges.{AllHaveSmallNumbers, AllTakeEdges, derived_of, drawn_of, changes_derived, changes_ruled}
use Rattle.job_tables.proofs.Runs.{changes_leave_run}
use Rattle.job_tables.proofs.TargetFiles.{changes_leave_files}

-- ---- what a failed call was asked before

abbrev AllOfTable : List Asking → Type 0
AllOfTable [] = Unit {0}
AllOfTable (asking ∷ asks) = IsOfTable asking × AllOfTable asks

some_else : (a b : Option Refusal) (cause : Refusal) → or_else a b ≡ Some cause → (a ≡ Some cause) ⊎ ((a ≡ None) × (b ≡ Some cause))
some_else None b cause h = inr (refl, h)
some_else (Some other) b cause h = inl h

none_before : (t : RunTable) (told : Told) (cause : Refusal) → place_of cause ≡ None → (asks behind : List Asking) → AllOfTable asks
    → first_unmet_ask t told (asks ++ behind) ≡ Some cause → NoneHolds t told asks
none_before t told cause none [] behind of h = tt
none_before t told cause none (asking ∷ asks) behind of h =
    by_cases (some_else (holds t told asking) (first_unmet_ask t told (asks ++ behind)) cause h) (none_before t told cause none asks behind of.1)
  where
    by_cases : (holds t told asking ≡ Some cause) ⊎ ((holds t told asking ≡ None) × (first_unmet_ask t told (asks ++ behind) ≡ Some cause))
        → (first_unmet_ask t told (asks ++ behind) ≡ Some cause → NoneHolds t told asks) → NoneHolds t told (asking ∷ asks)
    by_cases (inl is) rest = absurd (let bad = sym none ∙ has_place t told asking of.0 cause is in cc bad)
    by_cases (inr later) rest = (later.0, rest later.1)

no_more : (a : Option Refusal) (cause : Refusal) → or_else a None ≡ Some cause → a ≡ Some cause
no_more None cause h = h
no_more (Some other) cause h = h

pub unmet : (t : RunTable) (told : Told) (c : BlockdevCreate (List ℕ)) (cause : Refusal) → place_of cause ≡ None
    → refusal_to t told (command.BlockdevCreate c) ≡ Some cause → first_unmet_ask t told (create_asks c) ≡ Some cause
unfolding refusal_to asks_of
unmet t told c cause none h = no_more (first_unmet_ask t told (create_asks c)) cause (by_turn t.negotiated h)
  where
    by_turn : (b : Bool) → or_else (out_of_turn false b) (or_else (first_unmet_ask t told (create_asks c)) None) ≡ Some cause
        → or_else (first_unmet_ask t told (create_asks c)) None ≡ Some cause
    by_turn true k = k
    by_turn false k =
        let same : refusal.Negotiation false ≡ cause = cc k in
        absurd (let bad = sym none ∙ ap place_of (sym same) in cc bad)

-- ---- so what stands for its file has no parent

pub spoils_free : (t : RunTable) (told : Told) → TableStands t → (c : BlockdevCreate (List ℕ)) (cause : Refusal) → place_of cause ≡ None
    → first_unmet_ask t told (create_asks c) ≡ Some cause → (options : Created (List ℕ)) → c.options ≡ options
    → (AllLeaveJobs t (spoiled t options)) × (AllLeaveDisks t (spoiled t options))
spoils_free t told h c cause none unmet created.Unknown is = (tt, tt)
spoils_free t told h c cause none unmet (created.File f) is = ((tt, tt), (free, tt))
  where
    met : NoneHolds t told ((create_values (created.File f) ++ ask.Named (codes "job-id") (Some c.job_id) ∷ create_names (created.File f)) ++ ask.FreshJob c.job_id ∷ ask.Closed f.filename ∷ [])
    met = none_before t told cause none
        ((create_values (created.File f) ++ ask.Named (codes "job-id") (Some c.job_id) ∷ create_names (created.File f)) ++ ask.FreshJob c.job_id ∷ ask.Closed f.filename ∷ [])
        (ask.Files look.File ∷ []) (tt, (tt, (tt, (tt, (tt, tt)))))
        (subst (λ o. first_unmet_ask t told (create_values o ++ ask.Named (codes "job-id") (Some c.job_id) ∷ create_names o ++ create_rest c.job_id o) ≡ Some cause) is unmet)

    free : IsFreeFile t f.filename
    free row over = absurd (none-over t f.filename (none-stands t told f.filename met.1.1.1.1.0) row over)
spoils_free t told h c cause none unmet (created.Qcow2 q) is = ((tt, tt), (free, tt))
  where
    met : NoneHolds t told ((create_values (created.Qcow2 q) ++ ask.Named (codes "job-id") (Some c.job_id) ∷ create_names (created.Qcow2 q))
        ++ ask.Found (Some q.file) ∷ ask.FreshJob c.job_id ∷ ask.Drives (Some q.file) drivers.File ∷ ask.Lone q.file ∷ [])
    met = none_before t told cause none
        ((create_values (created.Qcow2 q) ++ ask.Named (codes "job-id") (Some c.job_id) ∷ create_names (created.Qcow2 q))
        ++ ask.Found (Some q.file) ∷ ask.FreshJob c.job_id ∷ ask.Drives (Some q.file) drivers.File ∷ ask.Lone q.file ∷ [])
        (ask.Files look.Format ∷ []) (tt, (tt, (tt, (tt, (tt, (tt, (tt, (tt, (tt, (tt, (tt, (tt, tt))))))))))))
        (subst (λ o. first_unmet_ask t told (create_values o ++ ask.Named (codes "job-id") (Some c.job_id) ∷ create_names o ++ create_rest c.job_id o) ≡ Some cause) is unmet)

    of : NamedFile t told h q.file
    of = named-file t told h q.file met.1.1.1.1.1.1.1.1.0 met.1.1.1.1.1.1.1.1.1.1.0 met.1.1.1.1.1.1.1.1.1.1.1.0

    name_is : file_of_node t q.file ≡ of.name
    name_is = rw (of.found, of.filename) refl

    free : IsFreeFile t (file_of_node t q.file)
    free row over =
        let same : row.id ≡ of.row.id = h.alone of.name row of.row (record { there = over.there; filename = over.filename ∙ ap Some name_is }) (record { there = of.there; filename = of.filename }) in
        subst (IsAlone t) (sym same) of.alone

spoiled_suit : (t : RunTable) (options : Created (List ℕ)) → AllTableSuit t (spoiled t options) × (AllHaveSmallNumbers (spoiled t options) × AllTakeEdges (spoiled t options))
spoiled_suit t created.Unknown = (tt, (tt, tt))
spoiled_suit t (created.File f) = ((tt, tt), ((tt, tt), (tt, tt)))
spoiled_suit t (created.Qcow2 q) = ((tt, tt), ((tt, tt), (tt, tt)))

pub failed_drawn : (t : RunTable) (told : Told) (c : BlockdevCreate (List ℕ)) (cause : Refusal) → TableStands t → JobsAreDrawn t
    → refusal_to t told (command.BlockdevCreate c) ≡ Some cause → place_of cause ≡ None → JobsAreDrawn (all_changed t (spoiled t c.options))
failed_drawn t told c cause h g refused none =
    let leave = spoils_free t told h c cause none (unmet t told c cause none refused) c.options refl in
    let suit = spoiled_suit t c.options in
    let was = derived_of t g.edges g.small in
    let d = changes_derived (spoiled t c.options) t h was suit.0 leave.0 suit.1.0 in
    record {
      jobs = record {
        stand = changes_leave_jobs (spoiled t c.options) t h g.jobs.stand suit.0 leave.0;
        run = changes_leave_run (spoiled t c.options) t h g.jobs.stand suit.0 leave.0 leave.1 g.jobs.run;
      };
      edges = drawn_of (all_changed t (spoiled t c.options)) (all_keep (spoiled t c.options) t suit.0 h) d
          (changes_ruled (spoiled t c.options) t h was suit.0 leave.0 suit.1.0 suit.1.1 g.edges.rule);
      small = d.small;
    }

pub failed_files : (s : State) (told : Told) (c : BlockdevCreate (List ℕ)) (cause : Refusal) → TableStands s.table → JobsStand s.table
    → refusal_to s.table told (command.BlockdevCreate c) ≡ Some cause → place_of cause ≡ None → TargetFilesStand s
    → TargetFilesStand (all_stepped s (spoiled s.table c.options))
failed_files s told c cause h j refused none f =
    let leave = spoils_free s.table told h c cause none (unmet s.table told c cause none refused) c.options refl in
    changes_leave_files (spoiled s.table c.options) s h j (spoiled_suit s.table c.options).0 leave.0 leave.1 f

-- ---- a guest's write

pub written_jobs : (t : RunTable) (node : ℕ) → TableStands t → JobsStand t → JobsStand (written_under node t)
unfolding written_under
written_jobs t node h j =
    rows_stand t (written_under node t) (rows-mapped t (written_under node t) (unsettled_over t node) (like_over t node) refl h.apart) refl refl h j

-- which leaves what is not over the written node its disk
pub written_run : (t : RunTable) (node : ℕ) → ((row : JobRecord) → Contains t.jobs row → is_over t node row.source ≡ false) → JobsRun t
    → JobsRun (written_under node t)
unfolding written_under
written_run t node apart r = record {
  numbers = r.numbers;
  sources = λ row here later there at.
      let x = Contains-map (unsettled_over t node) t.nodes later there in
      let id : x.0.id ≡ row.source = sym (keeps x.0 (is_over t node x.0.id)).0 ∙ ap (λ (n : NodeRecord). n.id) (sym x.2) ∙ at in
      let same : unsettled_over t node x.0 ≡ x.0 = ap (λ b. cond b (record x.0 { is_settled = false }) x.0) (ap (is_over t node) id ∙ apart row here) in
      subst (λ (n : NodeRecord). n.is_settled ≡ true) (sym (x.2 ∙ same)) (r.sources row here x.0 x.1 id);
  targets = λ row target here is.
      let w = r.targets row target here is in
      record {
        writable = λ later there at.
            let x = Contains-map (unsettled_over t node) t.nodes later there in
            let k = keeps x.0 (is_over t node x.0.id) in
            ap (λ (n : NodeRecord). n.read_only) x.2 ∙ k.1.1 ∙ w.writable x.0 x.1 (sym k.0 ∙ ap (λ (n : NodeRecord). n.id) (sym x.2) ∙ at);
        unsettled = λ later there at.
            let x = Contains-map (unsettled_over t node) t.nodes later there in
            let k = keeps x.0 (is_over t node x.0.id) in
            ap (λ (n : NodeRecord). n.is_settled) x.2
            ∙ lost_or x.0 (is_over t node x.0.id) (w.unsettled x.0 x.1 (sym k.0 ∙ ap (λ (n : NodeRecord). n.id) (sym x.2) ∙ at));
        used = λ later there at name named.
            let x = Contains-map (unsettled_over t node) t.nodes later there in
            let k = keeps x.0 (is_over t node x.0.id) in
            w.used x.0 x.1 (sym k.0 ∙ ap (λ (n : NodeRecord). n.id) (sym x.2) ∙ at) name (sym k.1.0 ∙ ap (λ (n : NodeRecord). n.filename) (sym x.2) ∙ named);
      };
}
  where
    keeps : (row : NodeRecord) (b : Bool) → ((cond b (record row { is_settled = false }) row).id ≡ row.id)
        × (((cond b (record row { is_settled = false }) row).filename ≡ row.filename) × ((cond b (record row { is_settled = false }) row).read_only ≡ row.read_only))
    keeps row true = (refl, (refl, refl))
    keeps row false = (refl, (refl, refl))

    lost_or : (row : NodeRecord) (b : Bool) → row.is_settled ≡ false → (cond b (record row { is_settled = false }) row).is_settled ≡ false
    lost_or row true is = refl
    lost_or row false is = is
