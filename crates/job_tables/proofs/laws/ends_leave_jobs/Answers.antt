use Rattle.job_tables.proofs.Left.{ends_leave_jobs}
use Rattle.job_tables.proofs.laws.ends_leave_jobs.Goals as goal

pub returns : goal.returns
returns c = ends_leave_jobs
