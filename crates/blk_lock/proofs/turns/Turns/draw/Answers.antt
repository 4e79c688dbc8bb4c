use Rattle.std.proofs.Common.{rules, ap, ◌∙◌}
use Rattle.blk_lock.proofs.Steps.{draws}
use Rattle.blk_lock.proofs.turns.Turns.draw.Goals as goal

pub compare_exchange-found-requires : goal.compare_exchange-found-requires
compare_exchange-found-requires g c = (search rules, search rules, draws _ _ _ _ _ _ _ _ _ _ (ap (λ m. m.0.stage) c.loop.invariant.1 ∙ c.requires.rest) (search rules))
