use Rattle.job_edges.proofs.Ended.{streams_complete}
use Rattle.job_edges.proofs.laws.streams_complete.Goals as goal

pub returns : goal.returns
returns c = streams_complete
