use Rattle.job_results.proofs.Finished.{copies_shown}
use Rattle.job_results.proofs.laws.finished_copies_are_shown.Goals as goal

pub returns : goal.returns
returns c = copies_shown
