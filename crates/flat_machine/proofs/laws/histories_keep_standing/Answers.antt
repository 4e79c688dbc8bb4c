use Rattle.flat_machine.proofs.Histories.{history_rests}
use Rattle.flat_machine.proofs.laws.histories_keep_standing.Goals as goal

pub returns : goal.returns
returns c = history_rests
