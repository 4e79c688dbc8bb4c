use Rattle.qmp_rules.specs.Table.{job_in}
use Rattle.blk_world.proofs.JobCopies.{taken_comes}
use Rattle.blk_world.proofs.world.World.take.Goals as goal

pub returns-clause-comes : goal.returns-clause-comes
returns-clause-comes g c =
    taken_comes (job_in c.args.self.now.table c.args.slot) c.args.self.now c.put_take.new.self c.put_take.new.buffer c.put_take.result c.put_take.ensures.taken c.put_take.ensures.whole
