use Rattle.job_tables.proofs.Changes.{opening_jobs, changes_leave_jobs}
use Rattle.job_tables.proofs.laws.changes_leave_jobs.Goals as goal

pub returns-clause-beginning : goal.returns-clause-beginning
returns-clause-beginning c = opening_jobs

pub returns-clause-changes : goal.returns-clause-changes
returns-clause-changes c = changes_leave_jobs
