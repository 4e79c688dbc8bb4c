use Rattle.job_edges.proofs.Ended.{commits_stop}
use Rattle.job_edges.proofs.laws.commits_stop.Goals as goal

pub returns : goal.returns
returns c = λ kinds after edges filter top base job through stand f others.
    commits_stop kinds after edges filter top job stand f others through base
