use Rattle.flat_machine.proofs.Resting.{guest_can}
use Rattle.flat_machine.proofs.laws.guests_can_write.Goals as goal

pub returns : goal.returns
returns c = guest_can
