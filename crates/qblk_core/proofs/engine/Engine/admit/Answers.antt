use Rattle.qblk_core.proofs.Kept.{admission-kept}
use Rattle.qblk_core.proofs.engine.Engine.admit.Goals as goal

pub returns-clause-comes : goal.returns-clause-comes
returns-clause-comes g c = rw c.put_admission.ensures.kept (admission-kept c.args.self.now c.args.op c.put_admission.result c.requires.idle c.put_admission.ensures.judged)
