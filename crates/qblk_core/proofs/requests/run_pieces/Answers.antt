use Rattle.std.proofs.Common.{refl, arith}
use Rattle.qblk_core.proofs.Progress.{turn-can, turn-next, turn-last, turn-all, turn-first}
use Rattle.qblk_core.proofs.requests.run_pieces.Goals as goal

pub piece-requires : goal.piece-requires
piece-requires g c = turn-can c.args.engine.now c.loop-k.engine c.args.pieces c.loop-k.k c.args.engine.now.guest.flight c.requires c.loop-k.invariant c.loop-k-test.true

pub returns-then-not-is_good : goal.returns-then-not-is_good
returns-then-not-is_good g c = turn-last c.args.engine.now c.loop-k.engine c.piece.new.self c.args.pieces c.loop-k.k c.piece.result c.args.engine.now.guest.flight c.requires c.loop-k.invariant c.loop-k-test.true c.piece.ensures.put (cc) c.piece.ensures.comes

pub loop-k-preserved : goal.loop-k-preserved
loop-k-preserved g c = turn-next c.args.engine.now c.loop-k.engine c.piece.new.self c.args.pieces c.loop-k.k c.piece.result c.args.engine.now.guest.flight c.requires c.loop-k.invariant c.loop-k-test.true c.piece.ensures.put (cc) c.piece.ensures.comes

pub loop-k-init : goal.loop-k-init
loop-k-init g c = turn-first c.args.engine.now c.args.pieces c.args.engine.now.guest.flight refl c.requires

pub returns : goal.returns
returns g c = turn-all c.args.engine.now c.loop-k.engine c.args.pieces c.loop-k.k c.args.engine.now.guest.flight c.requires c.loop-k.invariant (omega arith)
