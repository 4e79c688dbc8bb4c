use Rattle.std.proofs.Common.{ap, ◌∙◌}
use Rattle.blk_lock.specs.Stages.{in_hand}
use Rattle.blk_lock.specs.Views.{mine}
use Rattle.blk_lock.proofs.Made.{made_by-others}
use Rattle.blk_lock.proofs.Calls.{rests}
use Rattle.blk_lock.proofs.turns.Turns.take.Goals as goal

pub take_world-requires-clause-rest : goal.take_world-requires-clause-rest
take_world-requires-clause-rest g c =
    let pass = c.args.pass.now in let rest = rests _ _ pass.settled c.requires.free in
    (rest, pass.in_hand ∙ ap in_hand rest)

pub returns-clause-mine : goal.returns-clause-mine
returns-clause-mine g c = let taken = c.take_world.ensures.taken.1 in ap (λ p. mine p.view) taken.after ∙ made_by-others g.W.Logged.actor _ _ _ _ taken.others
