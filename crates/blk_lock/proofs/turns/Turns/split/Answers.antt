use Rattle.std.proofs.Common.{ap, ◌∙◌, rules}
use Rattle.blk_lock.specs.Stages.{in_hand}
use Rattle.blk_lock.proofs.Calls.{rests}
use Rattle.blk_lock.proofs.Joins.{settles}
use Rattle.blk_lock.proofs.turns.Turns.split.Goals as goal

pub divide-seat-requires-clause-rest : goal.divide-seat-requires-clause-rest
divide-seat-requires-clause-rest g c = let pass = c.args.pass.now in let rest = rests _ _ pass.settled c.requires.free in (rest, pass.in_hand ∙ ap in_hand rest)

pub load-requires : goal.load-requires
load-requires g c = (search rules, search rules, settles _ _ _ _ _ _ _ _ _ (ap (λ m. m.0.stage) c.divide-seat.ensures.given))
