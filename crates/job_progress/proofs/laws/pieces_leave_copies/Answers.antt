use Rattle.job_progress.proofs.Pieces.{piece_goes}
use Rattle.job_progress.proofs.laws.pieces_leave_copies.Goals as goal

pub returns : goal.returns
returns c = λ first s h drive op outcome part old new works j belong can pass within did go.
    piece_goes first h s drive outcome part old new works j belong within go op can pass did
