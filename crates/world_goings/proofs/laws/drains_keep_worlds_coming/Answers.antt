use Rattle.world_parts.proofs.Pushing.{comes-drains}
use Rattle.world_goings.proofs.laws.drains_keep_worlds_coming.Goals as goal

pub returns : goal.returns
returns c = λ o w drains comes. comes-drains o w drains comes
