use Rattle.world_parts.proofs.Quiet.{admission-comes}
use Rattle.blk_world.proofs.world.World.admit.Goals as goal

pub returns-clause-comes : goal.returns-clause-comes
returns-clause-comes g c =
    rw c.put_admission.ensures.kept (admission-comes c.args.self.now c.args.guest c.args.op c.put_admission.result c.put_admission.ensures.answer)
