use Rattle.world_rows.proofs.Calls.{turned_now}
use Rattle.world_rows.proofs.play.Play.turn.Goals as goal

pub invariant_of-self : goal.invariant_of-self
invariant_of-self c =
    turned_now c.self.inside.world c.job_turn.new.self c.self.inside.left c.self.invariant c.args.slot c.job_turn.result c.job_turn.ensures.turned
