use Rattle.block_jobs.proofs.Steps.{copied_is_paid, settled_is_left, taken_is_owed}
use Rattle.block_jobs.proofs.laws.steps_owe.Goals as goal

pub returns-clause-taken : goal.returns-clause-taken
returns-clause-taken c = taken_is_owed

pub returns-clause-settled : goal.returns-clause-settled
returns-clause-settled c = settled_is_left

pub returns-clause-copied : goal.returns-clause-copied
returns-clause-copied c = copied_is_paid
