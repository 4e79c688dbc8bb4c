-- Ends and readiness as histories note them.
use Rattle.std.proofs.Common.{◌≡◌, ℕ, refl, sym, subst, Option, Some, None}
use Rattle.std.specs.Prelude.{◌==◌}
use Rattle.std.specs.List.{Contains}
use Rattle.blk_graph.proofs.Members.{find-Some}
use Rattle.blk_history.specs.declared.entry.JobEnd.{JobEnd}
use Rattle.qmp_rules.specs.declared.rows.JobRecord.{JobRecord}
use Rattle.qmp_rules.specs.Ends.{ready_edits}
use Rattle.qmp_rules.specs.Table.{RunTable, job_at}
use Rattle.flat_machine.specs.State.{State}
use Rattle.flat_machine.specs.Jobs.{outcome_of, changes_at_end, ended, readied_by, readied}
use Rattle.flat_machine.specs.Wiring.{TableStands}
use Rattle.flat_machine.proofs.Resting.{stepped_table}
use Rattle.job_tables.specs.Jobs.{JobsStand, EdgesAreDrawn}
use Rattle.job_tables.specs.Running.{JobsRun}
use Rattle.job_tables.proofs.Asked.{ready_jobs}
use Rattle.job_tables.proofs.Ended.{ends_keep}
use Rattle.job_tables.proofs.Left.{ends_leave_jobs}
use Rattle.job_tables.proofs.Runs.{ends_keep_run, ready_run}

found_job : (t : RunTable) (number : ℕ) (row : JobRecord) → job_at t number ≡ Some row → Contains t.jobs row
found_job t number row is = (find-Some (λ (job : JobRecord). job.number == number) t.jobs row is).0

pub ended_drawn : (s : State) (number : ℕ) (why : JobEnd) → TableStands s.table → JobsStand s.table → EdgesAreDrawn s.table
    → EdgesAreDrawn (ended s (job_at s.table number) why).table
ended_drawn s number why h j d = by_found (job_at s.table number) refl
  where
    by_found : (found : Option JobRecord) → job_at s.table number ≡ found → EdgesAreDrawn (ended s found why).table
    by_found None is = d
    by_found (Some row) is =
        subst EdgesAreDrawn (sym (stepped_table (changes_at_end s row why) s))
        (ends_keep s.table row (outcome_of why) h j d (found_job s.table number row is)).0

pub ended_jobs : (s : State) (number : ℕ) (why : JobEnd) → TableStands s.table → JobsStand s.table → EdgesAreDrawn s.table
    → JobsStand (ended s (job_at s.table number) why).table
ended_jobs s number why h j d = by_found (job_at s.table number) refl
  where
    by_found : (found : Option JobRecord) → job_at s.table number ≡ found → JobsStand (ended s found why).table
    by_found None is = j
    by_found (Some row) is =
        subst JobsStand (sym (stepped_table (changes_at_end s row why) s))
        (ends_leave_jobs s.table row (outcome_of why) h j d (found_job s.table number row is))

pub readied_jobs : (s : State) (number : ℕ) → JobsStand s.table → JobsStand (readied number s).table
readied_jobs s number j = by_found (job_at s.table number)
  where
    by_found : (found : Option JobRecord) → JobsStand (readied_by s found).table
    by_found None = j
    by_found (Some row) = subst JobsStand (sym (stepped_table (ready_edits row) s)) (ready_jobs s.table row.number j)

pub ended_run : (s : State) (number : ℕ) (why : JobEnd) → TableStands s.table → JobsStand s.table → JobsRun s.table
    → JobsRun (ended s (job_at s.table number) why).table
ended_run s number why h j r = by_found (job_at s.table number) refl
  where
    by_found : (found : Option JobRecord) → job_at s.table number ≡ found → JobsRun (ended s found why).table
    by_found None is = r
    by_found (Some row) is =
        subst JobsRun (sym (stepped_table (changes_at_end s row why) s))
        (ends_keep_run s.table h j row (found_job s.table number row is) (outcome_of why) r)

pub readied_run : (s : State) (number : ℕ) → JobsRun s.table → JobsRun (readied number s).table
readied_run s number r = by_found (job_at s.table number)
  where
    by_found : (found : Option JobRecord) → JobsRun (readied_by s found).table
    by_found None = r
    by_found (Some row) = subst JobsRun (sym (stepped_table (ready_edits row) s)) (ready_run s.table row.number r)
