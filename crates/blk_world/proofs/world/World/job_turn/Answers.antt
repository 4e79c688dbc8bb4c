use Rattle.blk_world.proofs.JobTurns.{turned_comes}
use Rattle.blk_world.proofs.world.World.job_turn.Goals as goal

pub returns-clause-comes : goal.returns-clause-comes
returns-clause-comes g c =
    turned_comes c.args.self.now c.put_turn.new.self c.args.slot c.put_turn.result c.put_turn.ensures.turned c.put_turn.ensures.whole c.put_turn.ensures.joined
    c.put_turn.ensures.unfolds c.put_turn.ensures.joined_then
