use Rattle.world_jobs.proofs.StartRoom.{few_aside, few_works}
use Rattle.world_jobs.proofs.start_laws.started_jobs_have_room.Goals as goal

pub returns-clause-works : goal.returns-clause-works
returns-clause-works c = λ w command whole none. few_works w command whole none

pub returns-clause-aside : goal.returns-clause-aside
returns-clause-aside c = λ w command whole none. few_aside w command whole none
