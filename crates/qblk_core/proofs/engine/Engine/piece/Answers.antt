use Rattle.qblk_core.proofs.Kept.{piece-made}
use Rattle.qblk_core.proofs.engine.Engine.piece.Goals as goal

pub returns-clause-comes : goal.returns-clause-comes
returns-clause-comes g c = piece-made c.args.self.now c.put_piece.new.self c.put_piece.result c.requires c.put_piece.ensures
