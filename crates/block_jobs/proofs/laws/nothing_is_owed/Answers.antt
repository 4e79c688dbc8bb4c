use Rattle.block_jobs.proofs.Steps.{nothing_is_owed}
use Rattle.block_jobs.proofs.laws.nothing_is_owed.Goals as goal

pub returns : goal.returns
returns c = λ kind work place rows none. nothing_is_owed work none kind rows place
