use Rattle.std.proofs.Common.{ap, ◌∙◌, rules}
use Rattle.blk_lock.specs.Views.{mine}
use Rattle.blk_lock.proofs.Made.{made_by-others}
use Rattle.blk_lock.proofs.Steps.{looks}
use Rattle.blk_lock.proofs.Calls.{rests}
use Rattle.blk_lock.proofs.turns.Turns.front.Goals as goal

pub load-requires : goal.load-requires
load-requires g c = (search rules, search rules, looks _ _ _ _ _ _ _ _ _ (rests _ _ c.args.pass.now.settled c.requires.free))

pub returns-clause-mine : goal.returns-clause-mine
returns-clause-mine g c = let looked = c.load.ensures.2 in ap (λ m. mine m.0.view) looked.after ∙ made_by-others g.W.Logged.actor _ _ _ _ looked.others
