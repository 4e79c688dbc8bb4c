use Rattle.std.specs.Prelude.{is_none}
use Rattle.trace_codec.specs.Awaits.{seen_await}
use Rattle.world_parts.proofs.Quiet.{none-is, wait-comes}
use Rattle.blk_world.proofs.world.World.reach.Goals as goal

pub returns-clause-comes : goal.returns-clause-comes
returns-clause-comes g c =
    rw c.put_wait.ensures.kept (wait-comes c.args.self.now c.args.line (seen_await c.args.what) (is_none c.put_wait.result) c.requires.open (λ over. c.put_wait.ensures.met.0 (none-is c.put_wait.result over)))
