use Rattle.qblk_core.proofs.Rooms.{pieces-good}
use Rattle.qblk_core.proofs.laws.runs_with_space_are_good.Goals as goal

pub returns : goal.returns
returns c = pieces-good
