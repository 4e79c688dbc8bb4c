use Rattle.world_jobs.proofs.EndReady.{can_end}
use Rattle.world_jobs.proofs.end_laws.jobs_can_be_ended.Goals as goal

pub returns : goal.returns
returns c = λ w row why whole joined at. can_end w row why whole joined at
