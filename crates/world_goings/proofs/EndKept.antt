-- What is kept of jobs and bitmaps behind the end of a job.
use Rattle.std.proofs.Common.{◌≡◌, ◌≢◌, ℕ, ◌+◌, ◌-◌, ◌==◌, Bool, true, false, cond, not, List, [], ◌∷◌, map, refl, sym, ◌∙◌, ap, subst, arith, inl, inr}
use Rattle.std.specs.Prelude.{AllPairs, Contains}
use Rattle.std.proofs.lemmas.Bool.{eq-eqb, ne_eqb}
use Rattle.std.proofs.lemmas.List.Kept.{AllPairs-filter}
use Rattle.blk_bitmaps.specs.Calls.{Release, rows_after_call}
use Rattle.blk_bitmaps.specs.declared.row.Bitmap.{Bitmap}
use Rattle.blk_graph.proofs.Members.{Contains-cases, Contains-filter, Contains-nil, filter-all}
use Rattle.blk_graph.proofs.RoleLemmas.{head_pairs, tail_pairs}
use Rattle.block_jobs.specs.Work.{JobWork}
use Rattle.qmp_rules.specs.Changes.{all_changed, changed, without_job}
use Rattle.qmp_rules.specs.Ends.{drops_aside, end_edits}
use Rattle.qmp_rules.specs.Table.{RunTable}
use Rattle.qmp_rules.specs.declared.change.Change.{Change}
use Rattle.qmp_rules.specs.declared.change.Change.TheVariants as change
use Rattle.qmp_rules.specs.declared.change.JobOutcome.{JobOutcome}
use Rattle.qmp_rules.specs.declared.rows.JobRecord.{JobRecord}
use Rattle.flat_machine.specs.Bitmaps.{AreBitmapsOf, dirty_in}
use Rattle.flat_machine.specs.Recording.{dirty_after, dirty_beside}
use Rattle.flat_machine.specs.State.{Dirty}
use Rattle.flat_machine.specs.Wiring.{TableStands}
use Rattle.flat_machine.proofs.BitmapUses.{ends_sound}
use Rattle.flat_machine.proofs.InUse.{use_ends}
use Rattle.job_commands.proofs.BitmapCommands.{end_uses}
use Rattle.job_ends.proofs.Others.{works_left}
use Rattle.job_ends.proofs.Rows.{AreOfEnd, IsOfEnd, end_head, end_jobs, end_parts, end_rows, end_tail, tail_of_end}
use Rattle.job_tables.specs.Jobs.{EdgesAreDrawn}
use Rattle.job_tables.proofs.Copiers.{ends_keep_copies}
use Rattle.job_tables.proofs.Left.{ends_leave_jobs}
use Rattle.job_tables.proofs.Runs.{ends_keep_run}
use Rattle.job_works.specs.Works.{without_work}
use Rattle.world_parts.specs.Coherent.{AreJobsKept, entries_owed, entries_owed_by}

-- ---- entries that are owed

owed_without : (jobs : List JobRecord) (row : JobRecord) → AllPairs (λ (a b : JobRecord). a.number ≢ b.number) jobs → Contains jobs row
    → entries_owed_by (without_job row.number jobs) + entries_owed row ≡ entries_owed_by jobs
owed_without [] row once there = absurd (Contains-nil row there)
owed_without (x ∷ jobs) row once there = elim (Contains-cases x jobs row there) [
  | inl same ↦
      let here : (x.number == row.number) ≡ true = eq-eqb x.number row.number (ap (λ (r : JobRecord). r.number) (sym same)) in
      let rest : without_job row.number jobs ≡ jobs =
      filter-all (λ (r : JobRecord). not (r.number == row.number)) jobs
      (λ y later. ap not (ne_eqb y.number row.number (λ equal. head_pairs (λ (a b : JobRecord). a.number ≢ b.number) x jobs once y later (ap (λ (r : JobRecord). r.number) (sym same) ∙ sym equal)))) in
      let all : entries_owed_by (without_job row.number (x ∷ jobs)) ≡ entries_owed_by jobs =
      ap (λ b. entries_owed_by (cond (not b) (x ∷ without_job row.number jobs) (without_job row.number jobs))) here ∙ ap entries_owed_by rest in
      let one : entries_owed row ≡ entries_owed x = ap entries_owed same in
      omega (arith, all, one)
  | inr later ↦
      let apart : (x.number == row.number) ≡ false = ne_eqb x.number row.number (head_pairs (λ (a b : JobRecord). a.number ≢ b.number) x jobs once row later) in
      let all : entries_owed_by (without_job row.number (x ∷ jobs)) ≡ entries_owed x + entries_owed_by (without_job row.number jobs) =
      ap (λ b. entries_owed_by (cond (not b) (x ∷ without_job row.number jobs) (without_job row.number jobs))) apart in
      let rest = owed_without jobs row (tail_pairs (λ (a b : JobRecord). a.number ≢ b.number) x jobs once) later in
      omega (arith, all, rest)
]

-- ---- the changes behind the first

of_end_started : (t : RunTable) (c : Change) → IsOfEnd c → (changed t c).started ≡ t.started
unfolding changed
of_end_started t (change.PullFilter filter) is = refl
of_end_started t (change.Move from to but) is = refl
of_end_started t (change.Rebase node backing) is = refl
of_end_started t (change.Settle node disk) is = refl
of_end_started t (change.Unsettle node) is = refl
of_end_started t (change.MakeReadOnly node) is = refl
of_end_started t c is = absurd is

of_end_bitmaps : (t : RunTable) (c : Change) → IsOfEnd c → (changed t c).bitmaps ≡ t.bitmaps
unfolding changed
of_end_bitmaps t (change.PullFilter filter) is = refl
of_end_bitmaps t (change.Move from to but) is = refl
of_end_bitmaps t (change.Rebase node backing) is = refl
of_end_bitmaps t (change.Settle node disk) is = refl
of_end_bitmaps t (change.Unsettle node) is = refl
of_end_bitmaps t (change.MakeReadOnly node) is = refl
of_end_bitmaps t c is = absurd is

of_end_dirty : (t : RunTable) (ds : List Dirty) (c : Change) → IsOfEnd c → dirty_beside t ds c ≡ ds
of_end_dirty t ds (change.PullFilter filter) is = refl
of_end_dirty t ds (change.Move from to but) is = refl
of_end_dirty t ds (change.Rebase node backing) is = refl
of_end_dirty t ds (change.Settle node disk) is = refl
of_end_dirty t ds (change.Unsettle node) is = refl
of_end_dirty t ds (change.MakeReadOnly node) is = refl
of_end_dirty t ds c is = absurd is

started_left : (changes : List Change) (t : RunTable) → AreOfEnd changes → (all_changed t changes).started ≡ t.started
started_left [] t are = refl
started_left (c ∷ changes) t are = started_left changes (changed t c) are.1 ∙ of_end_started t c are.0

bitmaps_left : (changes : List Change) (t : RunTable) → AreOfEnd changes → (all_changed t changes).bitmaps ≡ t.bitmaps
bitmaps_left [] t are = refl
bitmaps_left (c ∷ changes) t are = bitmaps_left changes (changed t c) are.1 ∙ of_end_bitmaps t c are.0

dirty_left : (changes : List Change) (t : RunTable) (ds : List Dirty) → AreOfEnd changes → dirty_after t ds changes ≡ ds
dirty_left [] t ds are = refl
dirty_left (c ∷ changes) t ds are = ap (λ (left : List Dirty). dirty_after (changed t c) left changes) (of_end_dirty t ds c are.0) ∙ dirty_left changes (changed t c) ds are.1

-- ---- all of it

module _ (t : RunTable) (works : List JobWork) (aside : ℕ) (jobs : AreJobsKept t works aside) (stands : TableStands t) (drawn : EdgesAreDrawn t)
    (row : JobRecord) (here : Contains t.jobs row) (outcome : JobOutcome) where
  abbrev now : RunTable
  now = all_changed t (end_edits t row outcome)

  abbrev first : RunTable
  first = changed t (end_head row outcome)

  abbrev drops : Bool
  drops = drops_aside outcome row.bitmap

  of_end : AreOfEnd (end_tail row t outcome)
  of_end = tail_of_end row t outcome

  now_is : now ≡ all_changed first (end_tail row t outcome)
  now_is = ap (all_changed t) (end_parts row t outcome)

  pub now_jobs : now.jobs ≡ without_job row.number t.jobs
  unfolding changed
  now_jobs = ap (λ (x : RunTable). x.jobs) now_is ∙ end_jobs (end_tail row t outcome) first of_end

  pub now_started : now.started ≡ t.started
  unfolding changed
  now_started = ap (λ (x : RunTable). x.started) now_is ∙ started_left (end_tail row t outcome) first of_end

  pub now_dirty : (rows : List Bitmap) → AreBitmapsOf t.bitmaps rows
      → map dirty_in (rows_after_call rows (Release row.number drops)) ≡ dirty_after t (map dirty_in rows) (end_edits t row outcome)
  now_dirty rows was =
      (use_ends t row.number drops rows jobs.uses.busy (record { listed = was.listed; single = was.single })).holds
      ∙ sym (ap (dirty_after t (map dirty_in rows)) (end_parts row t outcome)
      ∙ dirty_left (end_tail row t outcome) first (dirty_beside t (map dirty_in rows) (end_head row outcome)) of_end)

  pub now_bitmaps : (rows : List Bitmap) → AreBitmapsOf t.bitmaps rows → AreBitmapsOf now.bitmaps (rows_after_call rows (Release row.number drops))
  unfolding changed
  now_bitmaps rows was =
      subst (λ (listed : List _). AreBitmapsOf listed (rows_after_call rows (Release row.number drops)))
      (sym (ap (λ (x : RunTable). x.bitmaps) now_is ∙ bitmaps_left (end_tail row t outcome) first of_end))
      (ends_sound t row.number drops rows jobs.uses.busy was)

  pub now_kept : AreJobsKept now (without_work row.number works) (aside - entries_owed row)
  now_kept = record {
    stand = ends_leave_jobs t row outcome stands jobs.stand drawn here;
    run = ends_keep_run t stands jobs.stand row here outcome jobs.run;
    copies = ends_keep_copies t jobs.stand row here outcome jobs.copies;
    rows = end_rows row t outcome jobs.rows;
    once =
        subst (AllPairs (λ (a b : JobRecord). a.number ≢ b.number)) (sym now_jobs)
        (AllPairs-filter (λ (a b : JobRecord). a.number ≢ b.number) (λ (r : JobRecord). not (r.number == row.number)) t.jobs jobs.once);
    uses = end_uses t row outcome jobs.uses;
    belong = works_left t row outcome works stands jobs.stand here jobs.belong;
    room =
        let owed = owed_without t.jobs row jobs.once here in
        let was = jobs.room in
        let left : entries_owed_by now.jobs ≡ entries_owed_by (without_job row.number t.jobs) = ap entries_owed_by now_jobs in
        omega (arith, owed, was, left);
    lone = λ other there.
        jobs.lone other (Contains-filter (λ (r : JobRecord). not (r.number == row.number)) t.jobs other (subst (λ rows. Contains rows other) now_jobs there)).0;
  }
