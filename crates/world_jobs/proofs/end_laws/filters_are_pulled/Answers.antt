use Rattle.world_jobs.proofs.EndReady.{has_pulled}
use Rattle.world_jobs.proofs.end_laws.filters_are_pulled.Goals as goal

pub returns : goal.returns
returns c = λ w row why now whole joined at did after. has_pulled w row why whole joined at now did after
