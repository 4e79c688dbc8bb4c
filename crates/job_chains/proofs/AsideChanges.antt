-- Commits stand aside behind changes that leave jobs, snapshots, failed creations and guests' writes.
use Rattle.std.proofs.Common.{◌≡◌, ◌≢◌, ℕ, List, [], ◌∷◌, refl, sym, ◌∙◌, ap, subst, inl, inr, Bool, true, false, cond, None}
use Rattle.std.specs.Prelude.{drop, IsSome}
use Rattle.std.specs.List.{Contains}
use Rattle.blk_graph.proofs.Members.{Contains-nil, Contains-there}
use Rattle.qmp_codec.specs.declared.event.JobKind.TheVariants.{Commit}
use Rattle.qmp_codec.specs.declared.nodes.Created.{Created}
use Rattle.qmp_codec.specs.declared.nodes.Created.TheVariants as created
use Rattle.qmp_rules.specs.declared.change.Change.{Change}
use Rattle.qmp_rules.specs.declared.change.Change.TheVariants as change
use Rattle.qmp_rules.specs.declared.rows.NodeRecord.{NodeRecord}
use Rattle.qmp_rules.specs.declared.rows.JobRecord.{JobRecord}
use Rattle.qmp_rules.specs.Chains.{filter_role, is_over, is_settled, unsettled_over, written_under}
use Rattle.qmp_rules.specs.Changes.{changed, all_changed}
use Rattle.qmp_rules.specs.Edits.{under_top, spoiled}
use Rattle.qmp_rules.specs.Table.{RunTable, node_by_id, opening_table}
use Rattle.flat_machine.specs.Suiting.{IsPlainNode, TableSuits, AllTableSuit}
use Rattle.flat_machine.specs.Wiring.{TableStands}
use Rattle.flat_machine.proofs.TableRests.{table_keeps}
use Rattle.job_tables.specs.Changes.{LeavesJobs, AllLeaveJobs}
use Rattle.job_tables.specs.Jobs.{JobsStand}
use Rattle.job_tables.specs.Rows.{nodes_of_job}
use Rattle.job_tables.proofs.Changes.{change_leaves_jobs}
use Rattle.job_tables.proofs.RowEdges.{in_left}
use Rattle.job_tables.proofs.Runs.{source_has}
use Rattle.job_chains.specs.Aside.{ReadsAside, StandsAside, CommitsStandAside, ReadsNoneAside, LeavesAside, AllLeaveAside}
use Rattle.job_chains.proofs.AsideSteps.{NewStep, StepFits}
use Rattle.job_chains.proofs.AsideKept.{NewJob, NewNode, KeepsNode, job_back, mapped_node, aside_on, aside_now, aside_by, aside_there, no_such_node, was_aside, still_aside}
use Rattle.job_chains.proofs.AsideChains.{settled_clear}

-- ---- the nodes of a commit

-- what lies under the top is one of its nodes
pub under_has : (row : JobRecord) (n : ℕ) → Contains (under_top row) n → Contains (nodes_of_job row) n
under_has row n at = in_left row.held row.read n (in_tail row.held at)
  where
    in_tail : (ids : List ℕ) → Contains (drop 1 ids) n → Contains ids n
    in_tail [] at = at
    in_tail (id ∷ ids) at = Contains-there id ids n at

module _ (t : RunTable) (j : JobsStand t) (row : JobRecord) (here : Contains t.jobs row) where
  pub top_plain : IsPlainNode t row.source
  top_plain = (j.each row here).plain row.source (source_has t row (j.each row here))

  pub under_plain : (n : ℕ) → Contains (under_top row) n → IsPlainNode t n
  under_plain n at = (j.each row here).plain n (under_has row n at)

  pub under_found : (n : ℕ) → Contains (under_top row) n → IsSome (node_by_id t n)
  under_found n at = subst IsSome (sym (under_plain n at).there) refl

  pub flat_clear : TableStands t → StandsAside t row → (node : ℕ) → is_settled t node ≡ true → ReadsAside t row node → ⊥
  flat_clear h = settled_clear t h row top_plain under_plain

pub settled_none : (t : RunTable) → TableStands t → JobsStand t → CommitsStandAside t → (node : ℕ) → is_settled t node ≡ true → ReadsNoneAside t node
settled_none t h j stands node settled row here kind = flat_clear t j row here h (stands row here kind) node settled

-- a run begins without jobs
pub opening_aside : (guests : List (List ℕ)) → CommitsStandAside (opening_table guests)
opening_aside guests row there = absurd (Contains-nil row there)

-- ---- one change

-- where it makes no new job
pub change_aside : (t : RunTable) (c : Change) → StepFits t c → ((row : JobRecord) → NewJob c row → ⊥)
    → ((row : JobRecord) → Contains t.jobs row → row.kind ≡ Commit → (n m : ℕ) → n ≢ row.source → NewStep t c n m → ReadsAside t row m → ReadsAside t row n)
    → ((row : JobRecord) → Contains t.jobs row → row.kind ≡ Commit → (later : NodeRecord) → NewNode c later → filter_role later.kind ≡ None
    → ReadsAside t row later.id → later.is_settled ≡ false)
    → CommitsStandAside t → CommitsStandAside (changed t c)
change_aside t c fits none steps nodes stands row there kind = elim (job_back t c row there) [
  | inr new ↦ absurd (none row new)
  | inl was ↦
      let of : was.old.kind ≡ Commit = sym was.kind ∙ kind in
      still_aside t c fits row was.old was.source was.held (steps was.old was.there of) (nodes was.old was.there of) (stands was.old was.there of)
]

-- ---- changes that leave jobs

module _ (t : RunTable) (h : TableStands t) (j : JobsStand t) (stands : CommitsStandAside t) where
  -- a new node is none that reads aside
  fresh_clear : (row : JobRecord) → Contains t.jobs row → (id : ℕ) → node_by_id t id ≡ None → (later : NodeRecord) → later.id ≡ id → ReadsAside t row later.id → later.is_settled ≡ false
  fresh_clear row here id fresh later same aside =
      absurd (no_such_node t id fresh (subst (λ n. IsSome (node_by_id t n)) same (aside_there t h.edges row (under_found t j row here) later.id aside)))

  pub leaves_aside : (c : Change) → TableSuits t c → LeavesJobs t c → LeavesAside t c → CommitsStandAside (changed t c)
  leaves_aside (change.AddFile new) suits leaves aside =
      change_aside t (change.AddFile new) tt (λ row never. never) (λ row here kind n m other never. absurd never)
      (λ row here kind later is own. fresh_clear row here new.id suits.fresh later (ap (λ (x : NodeRecord). x.id) is)) stands
  leaves_aside (change.AddFormat new file backing) suits leaves aside =
      change_aside t (change.AddFormat new file backing) tt (λ row never. never)
      (λ row here kind n m other new_step reads. absurd (aside m new_step.1 row here kind reads))
      (λ row here kind later is own. fresh_clear row here new.id suits.fresh later (ap (λ (x : NodeRecord). x.id) is)) stands
  leaves_aside (change.AddFilter new under) suits leaves aside =
      change_aside t (change.AddFilter new under) tt (λ row never. never) (λ row here kind n m other never. absurd never)
      (λ row here kind later is own. fresh_clear row here new.id suits.fresh later (ap (λ (x : NodeRecord). x.id) is)) stands
  leaves_aside change.Negotiate suits leaves aside =
      change_aside t change.Negotiate tt (λ row never. never) (λ row here kind n m other never. absurd never) (λ row here kind later never. absurd never) stands
  leaves_aside (change.KeepId id) suits leaves aside =
      change_aside t (change.KeepId id) tt (λ row never. never) (λ row here kind n m other never. absurd never) (λ row here kind later never. absurd never) stands
  leaves_aside (change.DropId id) suits leaves aside =
      change_aside t (change.DropId id) tt (λ row never. never) (λ row here kind n m other never. absurd never) (λ row here kind later never. absurd never) stands
  leaves_aside (change.MakeFile name size) suits leaves aside =
      change_aside t (change.MakeFile name size) tt (λ row never. never) (λ row here kind n m other never. absurd never) (λ row here kind later never. absurd never) stands
  leaves_aside (change.FormatFile node name size backing_file backing_fmt) suits leaves aside =
      change_aside t (change.FormatFile node name size backing_file backing_fmt) tt (λ row never. never) (λ row here kind n m other never. absurd never)
      (λ row here kind later never. absurd never) stands
  leaves_aside (change.SpoilFile name) suits leaves aside =
      change_aside t (change.SpoilFile name) tt (λ row never. never) (λ row here kind n m other never. absurd never) (λ row here kind later never. absurd never) stands
  leaves_aside (change.UseFile name) suits leaves aside =
      change_aside t (change.UseFile name) tt (λ row never. never) (λ row here kind n m other never. absurd never) (λ row here kind later never. absurd never) stands
  leaves_aside (change.RemoveNode node) suits leaves aside =
      change_aside t (change.RemoveNode node) tt (λ row never. never) (λ row here kind n m other never. absurd never) (λ row here kind later never. absurd never) stands
  leaves_aside (change.Unsettle node) suits leaves aside =
      change_aside t (change.Unsettle node) tt (λ row never. never) (λ row here kind n m other never. absurd never) (λ row here kind later never. absurd never) stands
  leaves_aside (change.AskJob number new) suits leaves aside =
      change_aside t (change.AskJob number new) tt (λ row never. never) (λ row here kind n m other never. absurd never) (λ row here kind later never. absurd never) stands
  leaves_aside (change.ReadyJob number) suits leaves aside =
      change_aside t (change.ReadyJob number) tt (λ row never. never) (λ row here kind n m other never. absurd never) (λ row here kind later never. absurd never) stands
  leaves_aside (change.AddDevice device node) suits leaves aside =
      change_aside t (change.AddDevice device node) tt (λ row never. never) (λ row here kind n m other never. absurd never) (λ row here kind later never. absurd never) stands
  leaves_aside (change.RemoveDevice number) suits leaves aside =
      change_aside t (change.RemoveDevice number) tt (λ row never. never) (λ row here kind n m other never. absurd never) (λ row here kind later never. absurd never) stands
  leaves_aside (change.AddBitmap new) suits leaves aside =
      change_aside t (change.AddBitmap new) tt (λ row never. never) (λ row here kind n m other never. absurd never) (λ row here kind later never. absurd never) stands
  leaves_aside (change.RemoveBitmap node name) suits leaves aside =
      change_aside t (change.RemoveBitmap node name) tt (λ row never. never) (λ row here kind n m other never. absurd never) (λ row here kind later never. absurd never) stands
  leaves_aside (change.TurnBitmap node name on) suits leaves aside =
      change_aside t (change.TurnBitmap node name on) tt (λ row never. never) (λ row here kind n m other never. absurd never) (λ row here kind later never. absurd never) stands
  leaves_aside (change.ClearBitmap node name) suits leaves aside =
      change_aside t (change.ClearBitmap node name) tt (λ row never. never) (λ row here kind n m other never. absurd never) (λ row here kind later never. absurd never) stands
  leaves_aside (change.MergeBitmap node name source_node source) suits leaves aside =
      change_aside t (change.MergeBitmap node name source_node source) tt (λ row never. never) (λ row here kind n m other never. absurd never)
      (λ row here kind later never. absurd never) stands
  leaves_aside c suits leaves aside = absurd leaves

pub changes_aside : (changes : List Change) (t : RunTable) → TableStands t → JobsStand t → AllTableSuit t changes → AllLeaveJobs t changes → AllLeaveAside t changes
    → CommitsStandAside t → CommitsStandAside (all_changed t changes)
changes_aside [] t h j suits leaves aside stands = stands
changes_aside (c ∷ changes) t h j suits leaves aside stands =
    changes_aside changes (changed t c) (table_keeps t c suits.0 h) (change_leaves_jobs t c h j suits.0 leaves.0) suits.1 leaves.1 aside.1
    (leaves_aside t h j stands c suits.0 leaves.0 aside.0)

-- ---- snapshots

pub snapshot_aside : (t : RunTable) (node overlay : ℕ) → ReadsNoneAside t node → ReadsNoneAside t overlay → CommitsStandAside t
    → CommitsStandAside (all_changed t (change.Attach overlay node ∷ change.Move node overlay overlay ∷ []))
snapshot_aside t node overlay node_clear overlay_clear stands =
    change_aside mid second tt (λ row never. never)
    (λ row here kind n m other new reads. absurd (clear_now row here kind m new.0 reads))
    (λ row here kind later never. absurd never)
    (change_aside t first tt (λ row never. never) attached (λ row here kind later never. absurd never) stands)
  where
    first : Change
    first = change.Attach overlay node

    second : Change
    second = change.Move node overlay overlay

    mid : RunTable
    mid = changed t first

    attached : (row : JobRecord) → Contains t.jobs row → row.kind ≡ Commit → (n m : ℕ) → n ≢ row.source → NewStep t first n m → ReadsAside t row m → ReadsAside t row n
    attached row here kind n m other new reads =
        absurd (node_clear row here kind (subst (ReadsAside t row) new.1 reads))

    clear_now : (row : JobRecord) → Contains mid.jobs row → row.kind ≡ Commit → (m : ℕ) → m ≡ overlay → ReadsAside mid row m → ⊥
    clear_now row here kind m same reads = elim (job_back t first row here) [
      | inr never ↦ never
      | inl was ↦
          let of : was.old.kind ≡ Commit = sym was.kind ∙ kind in
          overlay_clear was.old was.there of
          (subst (ReadsAside t was.old) same (was_aside t first tt row was.old was.source was.held (attached was.old was.there of) m reads))
    ]

-- ---- a failed creation, and a guest's write

spoil_aside : (t : RunTable) (name : List ℕ) → CommitsStandAside t → CommitsStandAside (changed t (change.SpoilFile name))
spoil_aside t name =
    change_aside t (change.SpoilFile name) tt (λ row never. never) (λ row here kind n m other never. absurd never) (λ row here kind later never. absurd never)

pub spoiled_aside : (t : RunTable) (options : Created (List ℕ)) → CommitsStandAside t → CommitsStandAside (all_changed t (spoiled t options))
spoiled_aside t (created.File c) stands = spoil_aside t c.filename stands
spoiled_aside t (created.Qcow2 c) stands = spoil_aside t _ stands
spoiled_aside t created.Unknown stands = stands

pub written_aside : (t : RunTable) (node : ℕ) → CommitsStandAside t → CommitsStandAside (written_under node t)
unfolding written_under
written_aside t node stands row there kind later at own aside =
    let was = mapped_node t (unsettled_over t node) keeps later at in
    was.lost (stands row there kind was.old was.there (ap filter_role (sym was.kind) ∙ own) (subst (ReadsAside t row) was.id (was_so aside)))
  where
    keeps : (x : NodeRecord) → KeepsNode x (unsettled_over t node x)
    keeps x = by_test (is_over t node x.id)
      where
        by_test : (b : Bool) → KeepsNode x (cond b (record x { is_settled = false }) x)
        by_test true = record { id = refl; kind = refl; lost = λ is. refl }
        by_test false = record { id = refl; kind = refl; lost = λ is. is }

    was_so : ReadsAside (written_under node t) row later.id → ReadsAside t row later.id
    was_so reads =
        aside_by (written_under node t) row (ReadsAside t row) (λ n other under. aside_now t row n other under)
        (λ n m other next more. aside_on t row n m other next more) reads.0 later.id reads.1
