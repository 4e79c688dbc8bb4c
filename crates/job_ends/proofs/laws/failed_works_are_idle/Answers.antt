use Rattle.job_ends.proofs.Idle.{begun_idle, marked_idle, copied_idle, taken_idle, settled_idle, failed_idle, passes_idle}
use Rattle.job_ends.proofs.laws.failed_works_are_idle.Goals as goal

pub returns-clause-begun : goal.returns-clause-begun
returns-clause-begun c = begun_idle

pub returns-clause-marked : goal.returns-clause-marked
returns-clause-marked c = marked_idle

pub returns-clause-copied : goal.returns-clause-copied
returns-clause-copied c = copied_idle

pub returns-clause-taken : goal.returns-clause-taken
returns-clause-taken c = taken_idle

pub returns-clause-settled : goal.returns-clause-settled
returns-clause-settled c = settled_idle

pub returns-clause-failed : goal.returns-clause-failed
returns-clause-failed c = failed_idle

pub returns-clause-passes : goal.returns-clause-passes
returns-clause-passes c = passes_idle
