use Rattle.job_edges.proofs.Ended.{commits_complete}
use Rattle.job_edges.proofs.laws.commits_complete.Goals as goal

pub returns : goal.returns
returns c = λ kinds after edges filter top base overlay job through stand f others.
    commits_complete kinds after edges filter top job stand f others through base overlay
