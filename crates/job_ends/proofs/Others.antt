-- Behind the end of a job the others go on, with the works that are left.
use Rattle.std.proofs.Common.{◌≡◌, ℕ, ◌+◌, List, [], ◌∷◌, ◌++◌, refl, sym, ◌∙◌, ap, subst, arith, Option, Some, None}
use Rattle.std.specs.Prelude.{◌==◌, not}
use Rattle.std.specs.List.{Contains, filter}
use Rattle.std.proofs.lemmas.Bool.{eq-eqb, eqb-true, ne_eqb}
use Rattle.blk_graph.proofs.Members.{Contains-filter, filter-all, find-Some}
use Rattle.blk_history.specs.declared.entry.JobEnd.{JobEnd}
use Rattle.blk_history.specs.declared.event.Event.{Event}
use Rattle.blk_history.specs.declared.event.Event.TheVariants.{End}
use Rattle.block_jobs.specs.Work.{JobWork}
use Rattle.qmp_rules.specs.declared.change.Change.{Change}
use Rattle.qmp_rules.specs.declared.change.Change.TheVariants as change
use Rattle.qmp_rules.specs.declared.change.JobOutcome.{JobOutcome}
use Rattle.qmp_rules.specs.declared.rows.JobRecord.{JobRecord}
use Rattle.qmp_rules.specs.Changes.{all_changed, changed, without_job}
use Rattle.qmp_rules.specs.Ends.{end_edits}
use Rattle.qmp_rules.specs.Queries.{bytes_of_node}
use Rattle.qmp_rules.specs.Table.{RunTable, job_at}
use Rattle.flat_machine.specs.State.{State}
use Rattle.flat_machine.specs.Agreement.{Contents}
use Rattle.flat_machine.specs.Jobs.{changes_at_end, ended, outcome_of}
use Rattle.flat_machine.specs.Machine.{after}
use Rattle.flat_machine.specs.Performing.{AllPerformed}
use Rattle.flat_machine.specs.Wiring.{TableStands}
use Rattle.flat_machine.proofs.Fresh.{no-found}
use Rattle.flat_machine.proofs.Resting.{stepped_table}
use Rattle.job_entries.proofs.Sources.{AllSpare, HaveOtherSources, SparesSources, changes_spare}
use Rattle.job_progress.specs.Belonging.{AreWorksOf, without_row}
use Rattle.job_progress.specs.Going.{AreJobsAhead}
use Rattle.job_progress.specs.Leaving.{AllLeaveCopies, LeavesCopies}
use Rattle.job_progress.proofs.Belong.{ends_belong, sizes_belong}
use Rattle.job_progress.proofs.Ends.{ends_leave}
use Rattle.job_tables.specs.Changes.{IsNoJobs}
use Rattle.job_tables.specs.Jobs.{JobsStand}
use Rattle.job_tables.proofs.RowEdges.{holds_source, in_left}
use Rattle.job_works.specs.Works.{without_work}
use Rattle.job_ends.proofs.Rows.{AreOfEnd, IsOfEnd, end_head, end_jobs, end_parts, end_tail, tail_of_end}
use Rattle.job_ends.proofs.Spared.{end_leaves}

-- ---- the row of a job by its number

pub at_number : (t : RunTable) → JobsStand t → (row : JobRecord) → Contains t.jobs row → job_at t row.number ≡ Some row
at_number t j row here = by_found (job_at t row.number) refl
  where
    by_found : (found : Option JobRecord) → job_at t row.number ≡ found → job_at t row.number ≡ Some row
    by_found None e = absurd (no-found (λ (r : JobRecord). r.number == row.number) t.jobs row e here (eq-eqb row.number row.number refl))
    by_found (Some r) e =
        let at = find-Some (λ (x : JobRecord). x.number == row.number) t.jobs r e in
        e ∙ ap Some (j.numbers r row at.0 here (eqb-true r.number row.number at.1))

-- ---- the others go on

pub others_ahead : (first s : State) (h : List Event) (row : JobRecord) (why : JobEnd) (offset : ℕ) (old new : Contents) (works : List JobWork)
    → TableStands s.table → JobsStand s.table → Contains s.table.jobs row → AreWorksOf s.table works → AllPerformed s (changes_at_end s row why) old new
    → AreJobsAhead first h s old.reads works
    → AreJobsAhead first (h ++ End row.number why offset ∷ []) (after s (End row.number why offset)) new.reads (without_work row.number works)
others_ahead first s h row why offset old new works stands j here belong did go =
    ends_leave first s h row why offset old new works j belong (at_number s.table j row here)
    (end_leaves works s.table stands j row here (outcome_of why)) did go

-- ---- works

-- each job holds its source for itself
abbrev HoldSources : List JobRecord → Type 0
HoldSources jobs = (row : JobRecord) → Contains jobs row → Contains row.held row.source

module _ (works : List JobWork) (from : ℕ) where
  other_sources : (t : RunTable) (node : ℕ) → HoldSources t.jobs → IsNoJobs t node → HaveOtherSources from t node
  other_sources t node holds none row here small same =
      none.held row here (in_left row.held row.read node (subst (Contains row.held) same (holds row here)))

  spares : (t : RunTable) (c : Change) → HoldSources t.jobs → IsOfEnd c → LeavesCopies works t c → SparesSources from t c
  spares t (change.PullFilter filter) holds is leaves = other_sources t filter holds leaves
  spares t (change.Move a b but) holds is leaves = tt
  spares t (change.Rebase node backing) holds is leaves = tt
  spares t (change.Settle node disk) holds is leaves = tt
  spares t (change.Unsettle node) holds is leaves = tt
  spares t (change.MakeReadOnly node) holds is leaves = tt
  spares t c holds is leaves = absurd is

  all_spare : (changes : List Change) (t : RunTable) → HoldSources t.jobs → AreOfEnd changes → AllLeaveCopies works t changes → AllSpare from t changes
  all_spare [] t holds are leave = tt
  all_spare (c ∷ changes) t holds are leave = (
    spares t c holds are.0 leave.0,
    all_spare changes (changed t c) (subst HoldSources (sym (end_jobs (c ∷ []) t (are.0, tt))) holds) are.1 leave.1,
  )

module _ (t : RunTable) (row : JobRecord) (o : JobOutcome) (works : List JobWork) (h : TableStands t) (j : JobsStand t) (here : Contains t.jobs row) where
  first_jobs : (changed t (end_head row o)).jobs ≡ without_job row.number t.jobs
  unfolding changed
  first_jobs = refl

  first_size : (node : ℕ) → bytes_of_node (changed t (end_head row o)) node ≡ bytes_of_node t node
  unfolding changed
  first_size node = refl

  leaves : AllLeaveCopies works t (end_head row o ∷ end_tail row t o)
  leaves = subst (AllLeaveCopies works t) (end_parts row t o) (end_leaves works t h j row here o)

  last_jobs : (all_changed (changed t (end_head row o)) (end_tail row t o)).jobs ≡ without_job row.number t.jobs
  last_jobs = end_jobs (end_tail row t o) (changed t (end_head row o)) (tail_of_end row t o) ∙ first_jobs

  holds : HoldSources (changed t (end_head row o)).jobs
  holds other at =
      let was = subst (λ rows. Contains rows other) first_jobs at in
      holds_source t other (j.each other (Contains-filter (λ (r : JobRecord). not (r.number == row.number)) t.jobs other was).0)

  last_size : (other : JobRecord) → Contains (without_job row.number t.jobs) other
      → bytes_of_node (all_changed (changed t (end_head row o)) (end_tail row t o)) other.source ≡ bytes_of_node t other.source
  last_size other at =
      let spare = all_spare works (other.number + 1) (end_tail row t o) (changed t (end_head row o)) holds (tail_of_end row t o) leaves.1 in
      let w = changes_spare (other.number + 1) (end_tail row t o) (changed t (end_head row o)) spare other
      (subst (λ rows. Contains rows other) (sym last_jobs) at) (omega arith) in
      w.size ∙ first_size other.source

  pub works_left : AreWorksOf t works → AreWorksOf (all_changed t (end_edits t row o)) (without_work row.number works)
  works_left belong =
      subst (λ (changes : List Change). AreWorksOf (all_changed t changes) (without_work row.number works)) (sym (end_parts row t o))
      (sizes_belong (without_row row.number t) (all_changed (changed t (end_head row o)) (end_tail row t o)) (without_work row.number works) last_jobs last_size
      (ends_belong t row.number works belong))

pub noted_works : (s : State) (number : ℕ) (why : JobEnd) (works : List JobWork) → TableStands s.table → JobsStand s.table → AreWorksOf s.table works
    → AreWorksOf (ended s (job_at s.table number) why).table (without_work number works)
noted_works s number why works h j belong = by_found (job_at s.table number) refl
  where
    by_found : (found : Option JobRecord) → job_at s.table number ≡ found → AreWorksOf (ended s found why).table (without_work number works)
    by_found None e =
        sizes_belong (without_row number s.table) s.table (without_work number works)
        (sym (filter-all (λ (r : JobRecord). not (r.number == number)) s.table.jobs
        (λ r at. ap not (ne_eqb r.number number (λ same. no-found (λ (x : JobRecord). x.number == number) s.table.jobs r e at (eq-eqb r.number number same))))))
        (λ r at. refl) (ends_belong s.table number works belong)
    by_found (Some row) e =
        let at = find-Some (λ (x : JobRecord). x.number == number) s.table.jobs row e in
        let same : row.number ≡ number = eqb-true row.number number at.1 in
        subst (λ n. AreWorksOf (ended s (Some row) why).table (without_work n works)) same
        (subst (λ t. AreWorksOf t (without_work row.number works)) (sym (stepped_table (changes_at_end s row why) s))
        (works_left s.table row (outcome_of why) works h j at.0 belong))
