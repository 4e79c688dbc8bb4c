use Rattle.world_parts.proofs.Quiet.{end-comes}
use Rattle.blk_world.proofs.world.World.finish.Goals as goal

pub returns-clause-comes : goal.returns-clause-comes
returns-clause-comes g c = rw c.put_end.ensures (end-comes c.args.self.now c.args.actor c.requires.open c.requires.idle)
