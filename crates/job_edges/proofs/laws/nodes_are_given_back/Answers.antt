use Rattle.job_edges.proofs.Ended.{written_no_more}
use Rattle.job_edges.proofs.laws.nodes_are_given_back.Goals as goal

pub returns : goal.returns
returns c = written_no_more
