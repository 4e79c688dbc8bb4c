use Rattle.std.proofs.Common.{refl}
use Rattle.qmp_rules.specs.Table.{job_at}
use Rattle.blk_world.proofs.JobCopies.{settled_comes}
use Rattle.blk_world.proofs.world.World.settle.Goals as goal

pub returns-clause-comes : goal.returns-clause-comes
returns-clause-comes g c =
    settled_comes (job_at c.args.self.now.table c.args.t.job) c.args.self.now c.put_settle.new.self c.args.t c.args.bytes.now c.put_settle.result refl
    c.put_settle.ensures.settled c.put_settle.ensures.whole c.put_settle.ensures.joined c.requires.read
