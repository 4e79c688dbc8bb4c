use Rattle.job_chains.proofs.AsideEnds.{target_clear}
use Rattle.job_chains.proofs.aside.others_read_nothing_aside.Goals as goal

pub returns : goal.returns
returns c = λ t row other target h g here kind there apart is reads.
    target_clear t h g.jobs.stand g.edges g.small row here kind other there apart target is reads
