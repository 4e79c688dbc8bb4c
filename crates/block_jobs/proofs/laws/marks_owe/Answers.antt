use Rattle.block_jobs.proofs.Steps.{marks_grow, marks_owe}
use Rattle.block_jobs.proofs.laws.marks_owe.Goals as goal

pub returns-clause-written : goal.returns-clause-written
returns-clause-written c = λ kind work span none is within. marks_owe work span none kind is within

pub returns-clause-before : goal.returns-clause-before
returns-clause-before c = λ kind work span none. marks_grow work span none kind
