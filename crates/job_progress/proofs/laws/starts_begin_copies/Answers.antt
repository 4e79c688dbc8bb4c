use Rattle.job_progress.proofs.Begin.{start_begins}
use Rattle.job_progress.proofs.laws.starts_begin_copies.Goals as goal

pub returns : goal.returns
returns c = start_begins
