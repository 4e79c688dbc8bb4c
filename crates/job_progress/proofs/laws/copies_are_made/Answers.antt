use Rattle.job_progress.proofs.Copies.{copies_made}
use Rattle.job_progress.proofs.laws.copies_are_made.Goals as goal

pub returns : goal.returns
returns c = copies_made
