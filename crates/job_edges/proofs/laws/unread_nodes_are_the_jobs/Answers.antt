use Rattle.job_edges.proofs.Unread.{unread_by}
use Rattle.job_edges.proofs.laws.unread_nodes_are_the_jobs.Goals as goal

pub returns-clause-unread : goal.returns-clause-unread
returns-clause-unread c = λ kinds edges node job e stand held there at other.
    let r = unread_by kinds edges stand node job held e there at other in
    (r.unread, r.calm.writes)

pub returns-clause-shares : goal.returns-clause-shares
returns-clause-shares c = λ kinds edges node job e stand held there at other.
    (unread_by kinds edges stand node job held e there at other).shares
