use Rattle.qblk_core.proofs.Kept.{retirement-kept}
use Rattle.qblk_core.proofs.engine.Engine.retire.Goals as goal

pub returns-clause-comes : goal.returns-clause-comes
returns-clause-comes g c = rw c.put_retirement.ensures (retirement-kept c.args.self.now c.requires.over)
