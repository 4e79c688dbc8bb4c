use Rattle.world_jobs.proofs.StartCarried.{started_in}
use Rattle.world_jobs.proofs.start_laws.starts_are_carried.Goals as goal

pub returns : goal.returns
returns c = λ w given c' u now drains started whole joined unfolds after did. started_in w given c' u now drains whole joined unfolds after started did
