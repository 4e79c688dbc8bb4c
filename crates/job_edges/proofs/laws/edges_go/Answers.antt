use Rattle.job_edges.proofs.Ended.{jobs_go, nodes_unbacked}
use Rattle.job_edges.proofs.laws.edges_go.Goals as goal

pub returns-clause-job : goal.returns-clause-job
returns-clause-job c = jobs_go

pub returns-clause-backing : goal.returns-clause-backing
returns-clause-backing c = nodes_unbacked
