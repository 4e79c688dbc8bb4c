use Rattle.world_copies.proofs.JobSteps.{can_guard, has_target, room_to_copy}
use Rattle.world_copies.proofs.laws.jobs_can_copy.Goals as goal

pub returns-clause-takes : goal.returns-clause-takes
returns-clause-takes c = λ w row whole joined here. room_to_copy w whole joined row here

pub returns-clause-settles : goal.returns-clause-settles
returns-clause-settles c = λ w row whole joined here. has_target w whole joined row here

pub returns-clause-guards : goal.returns-clause-guards
returns-clause-guards c = λ w row place block whole joined here is within. can_guard w whole joined row here place block is within
