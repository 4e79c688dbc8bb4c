use Rattle.flat_machine.proofs.OneHistory.{one_history}
use Rattle.flat_machine.proofs.laws.transcripts_have_one_history.Goals as goal

pub returns : goal.returns
returns c = one_history
