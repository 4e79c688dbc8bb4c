use Rattle.flat_machine.proofs.Written.{piece_keeps}
use Rattle.flat_machine.proofs.laws.pieces_keep_disks.Goals as goal

pub returns : goal.returns
returns c = piece_keeps
