use Rattle.job_tables.proofs.Runs.{opening_run, changes_leave_run, snapshots_leave_run}
use Rattle.job_tables.proofs.laws.jobs_run_on.Goals as goal

pub returns-clause-beginning : goal.returns-clause-beginning
returns-clause-beginning c = opening_run

pub returns-clause-changes : goal.returns-clause-changes
returns-clause-changes c = changes_leave_run

pub returns-clause-snapshots : goal.returns-clause-snapshots
returns-clause-snapshots c = snapshots_leave_run
