use Rattle.world_jobs.proofs.EndTurns.{ends_in_turn}
use Rattle.world_jobs.proofs.end_laws.jobs_end_in_their_turns.Goals as goal

pub returns : goal.returns
returns c = λ w v slot is why whole joined has so calm did. ends_in_turn w v slot is why whole joined has so calm did
