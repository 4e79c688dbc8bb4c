-- What is done for one job leaves the others.
use Rattle.std.proofs.Common.{◌≡◌, ◌≢◌, ℕ, Bool, true, false, List, refl, sym, ap, ◌∙◌, subst, Some, None}
use Rattle.std.specs.Prelude.{◌==◌}
use Rattle.std.specs.List.{Contains}
use Rattle.std.proofs.lemmas.Bool.{eqb-true, eqb-false}
use Rattle.blk_history.specs.declared.event.Event.{Event}
use Rattle.block_jobs.specs.Work.{JobWork}
use Rattle.qmp_rules.specs.declared.rows.JobRecord.{JobRecord}
use Rattle.flat_machine.specs.Jobs.{writes_target}
use Rattle.flat_machine.specs.State.{State}
use Rattle.job_tables.specs.Jobs.{JobsStand}
use Rattle.job_works.specs.Works.{work_of, with_work}
use Rattle.job_works.proofs.Changed.{changed_at, changed_else, job_found}
use Rattle.job_progress.specs.Going.{IsJobAhead, AreJobsAhead}
use Rattle.job_progress.proofs.Goes.{alike_itself, goes}

-- ---- the others go on

module _ (first s : State) (h : List Event) (reads now : ℕ → List ℕ) (row : JobRecord) (work after : JobWork) (works : List JobWork) (j : JobsStand s.table)
    (here : Contains s.table.jobs row) (is : work_of works row.number ≡ Some work) (same : after.job ≡ work.job)
    (kept : (other : JobRecord) (node : ℕ) → Contains s.table.jobs other → other.number ≢ row.number → other.target ≡ Some node → now node ≡ reads node)
    (own : after.met ≡ None → (work.met ≡ None) × (IsJobAhead first h s reads row work → IsJobAhead first h s now row after))
    (go : AreJobsAhead first h s reads works) where
  number_is : after.job ≡ row.number
  number_is = same ∙ job_found works row.number work is

  keeps : (w : JobWork) → w.job ≡ after.job → after.job ≡ after.job
  keeps w e = refl

  of_own : (other : JobRecord) (w : JobWork) → Contains s.table.jobs other → writes_target other.kind ≡ true → work_of (with_work after works) other.number ≡ Some w → w.met ≡ None
      → other.number ≡ after.job → IsJobAhead first h s now other w
  of_own other w there copies found going at =
      let one : other ≡ row = j.numbers other row there here (at ∙ number_is) in
      let was : work_of works after.job ≡ Some work = subst (λ n. work_of works n ≡ Some work) (sym number_is) is in
      let new : work_of (with_work after works) after.job ≡ Some after = changed_at after.job (λ x. after) keeps works work was in
      let both : Some w ≡ Some after = sym found ∙ ap (work_of (with_work after works)) at ∙ new in
      let w_is : w ≡ after = cc both in
      let met : after.met ≡ None = ap (λ (x : JobWork). x.met) (sym w_is) ∙ going in
      let step = own met in
      let goes_row : IsJobAhead first h s now row after = step.1 (go row work here (ap (λ (r : JobRecord). writes_target r.kind) (sym one) ∙ copies) is step.0) in
      subst (λ (x : JobWork). IsJobAhead first h s now other x) (sym w_is) (subst (λ (r : JobRecord). IsJobAhead first h s now r after) (sym one) goes_row)

  of_other : (other : JobRecord) (w : JobWork) → Contains s.table.jobs other → writes_target other.kind ≡ true → work_of (with_work after works) other.number ≡ Some w → w.met ≡ None
      → other.number ≢ after.job → IsJobAhead first h s now other w
  of_other other w there copies found going differ =
      let was : work_of works other.number ≡ Some w = sym (changed_else after.job (λ x. after) keeps other.number differ works) ∙ found in
      goes first h s s reads now other other w (alike_itself other)
      (record {
        begun = refl;
        size = refl;
        source = refl;
        target = λ target its. kept other target there (λ same_number. differ (same_number ∙ sym number_is)) its;
      })
      (go other w there copies was going)

  pub others_go : AreJobsAhead first h s now (with_work after works)
  others_go other w there copies found going = by_test (other.number == after.job) refl
    where
      by_test : (b : Bool) → (other.number == after.job) ≡ b → IsJobAhead first h s now other w
      by_test true e = of_own other w there copies found going (eqb-true other.number after.job e)
      by_test false e = of_other other w there copies found going (eqb-false other.number after.job e)
