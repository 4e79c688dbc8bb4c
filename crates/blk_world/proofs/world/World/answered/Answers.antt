use Rattle.world_parts.specs.Progress.{answered_in}
use Rattle.world_parts.proofs.Ends.{has-is, is-has}
use Rattle.blk_world.proofs.world.World.answered.Goals as goal

pub returns : goal.returns
returns g c =
    rw (← c.self.view_is, c.is_answered.ensures) (
      has-is c.args.line (answered_in c.self.inside.progress.log.events),
      is-has c.args.line (answered_in c.self.inside.progress.log.events),
    )
