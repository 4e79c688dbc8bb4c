use Rattle.job_edges.proofs.Bounds.{bounded}
use Rattle.job_edges.proofs.laws.bounded_edges_agree.Goals as goal

pub returns : goal.returns
returns c = bounded
