use Rattle.job_progress.proofs.Entries.{entries_leave}
use Rattle.job_progress.proofs.laws.entries_leave_copies.Goals as goal

pub returns : goal.returns
returns c = entries_leave
