use Rattle.flat_machine.specs.Sights.{expected}
use Rattle.flat_machine.proofs.Accepted.{accepted_can}
use Rattle.flat_machine.proofs.laws.accepted_changes_can_be_made.Goals as goal

pub returns : goal.returns
returns c = λ s told command stands is_told accepted. accepted_can s told (expected s command) command stands is_told.refusal accepted
