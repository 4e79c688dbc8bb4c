use Rattle.job_tables.proofs.Asked.{snapshots_leave_jobs}
use Rattle.job_tables.proofs.laws.snapshots_leave_jobs.Goals as goal

pub returns : goal.returns
returns c = λ t node overlay j free. snapshots_leave_jobs t j node overlay free
