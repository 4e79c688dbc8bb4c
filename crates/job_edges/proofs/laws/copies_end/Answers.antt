use Rattle.job_edges.proofs.Ended.{copies_stop}
use Rattle.job_edges.proofs.laws.copies_end.Goals as goal

pub returns : goal.returns
returns c = copies_stop
