use Rattle.world_jobs.proofs.JobDrains.{drain_room, drained_whole}
use Rattle.world_jobs.proofs.end_laws.jobs_can_drain.Goals as goal

pub returns-clause-room : goal.returns-clause-room
returns-clause-room c = λ w row whole at. drain_room w row whole at

pub returns-clause-whole : goal.returns-clause-whole
returns-clause-whole c = λ w is row whole at. drained_whole w is row whole at
