use Rattle.job_results.proofs.Finished.{stand_beginning, stand_on}
use Rattle.job_results.proofs.laws.jobs_stand_at_ends.Goals as goal

pub returns-clause-beginning : goal.returns-clause-beginning
returns-clause-beginning c = stand_beginning

pub returns-clause-more : goal.returns-clause-more
returns-clause-more c = stand_on
