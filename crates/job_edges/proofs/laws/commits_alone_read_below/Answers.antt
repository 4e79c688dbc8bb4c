use Rattle.job_edges.proofs.Below.{reads_through, same_number}
use Rattle.job_edges.proofs.laws.commits_alone_read_below.Goals as goal

pub returns-clause-through : goal.returns-clause-through
returns-clause-through c = λ kinds edges through reader e path node job stand commits.
    reads_through kinds edges stand through commits reader e path node job

pub returns-clause-job : goal.returns-clause-job
returns-clause-job c = λ kinds edges through e job stand commits.
    same_number kinds edges stand through commits e job
