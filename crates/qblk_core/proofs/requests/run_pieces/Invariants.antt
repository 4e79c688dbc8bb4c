use Rattle.blk_history.specs.Fold.{With}
use Rattle.qblk_core.specs.Requests.{AtPiece}
use Rattle.qblk_core.proofs.requests.run_pieces.Given as goal

-- so many pieces were good
abbrev pub invariant-loop-k : goal.invariant-loop-k
invariant-loop-k g l = With l.initial.engine.guest.flight (AtPiece l.initial.engine l.engine l.k)
