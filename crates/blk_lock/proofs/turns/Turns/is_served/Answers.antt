use Rattle.std.proofs.Common.{rules, ap, ◌∙◌}
use Rattle.blk_lock.proofs.Steps.{watches}
use Rattle.blk_lock.proofs.turns.Turns.is_served.Goals as goal

pub load-requires : goal.load-requires
load-requires g c = (search rules, search rules, watches _ _ _ _ _ _ _ _ _ _ (ap (λ m. m.0.stage) c.loop.invariant.1 ∙ c.requires.waits))
