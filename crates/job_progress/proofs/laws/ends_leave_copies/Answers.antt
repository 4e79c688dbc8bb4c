use Rattle.job_progress.proofs.Ends.{ends_leave}
use Rattle.job_progress.proofs.laws.ends_leave_copies.Goals as goal

pub returns : goal.returns
returns c = ends_leave
