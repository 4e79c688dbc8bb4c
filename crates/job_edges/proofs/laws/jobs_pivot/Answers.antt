use Rattle.job_edges.proofs.Ended.{pivots, mirrors_stay_apart}
use Rattle.job_edges.proofs.laws.jobs_pivot.Goals as goal

pub returns-clause-stands : goal.returns-clause-stands
returns-clause-stands c = λ kinds after edges filter source target job stand f others.
    pivots kinds after edges filter source job stand f others target

pub returns-clause-apart : goal.returns-clause-apart
returns-clause-apart c = mirrors_stay_apart
