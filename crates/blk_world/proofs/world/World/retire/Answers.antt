use Rattle.world_parts.proofs.Quiet.{retirement-comes}
use Rattle.blk_world.proofs.world.World.retire.Goals as goal

pub returns-clause-comes : goal.returns-clause-comes
returns-clause-comes g c = rw c.put_retirement.ensures (retirement-comes c.args.self.now c.args.guest c.requires)
