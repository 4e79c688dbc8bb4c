use Rattle.std.proofs.Common.{refl}
use Rattle.qblk_core.specs.Face.{machine_on, new_io_guest}
use Rattle.qblk_core.proofs.OneTranscript.{one-in-turn}
use Rattle.qblk_core.proofs.laws.runs_in_turn_have_one_history.Goals as goal

pub returns : goal.returns
returns c = λ first other ops text h k ph pk. one-in-turn (machine_on first) (machine_on other) new_io_guest ops text h k refl refl ph pk
