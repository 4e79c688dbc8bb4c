use Rattle.flat_machine.proofs.Resting.{piece_rests}
use Rattle.flat_machine.proofs.laws.pieces_keep_standing.Goals as goal

pub returns : goal.returns
returns c = piece_rests
