use Rattle.job_edges.proofs.Unread.{mild}
use Rattle.job_edges.proofs.laws.open_edges_share_reads.Goals as goal

pub returns-clause-shares : goal.returns-clause-shares
returns-clause-shares c = λ kinds edges e stand there. (mild kinds edges stand e there).shares

pub returns-clause-reads : goal.returns-clause-reads
returns-clause-reads c = λ kinds edges e stand there. (mild kinds edges stand e there).reads
