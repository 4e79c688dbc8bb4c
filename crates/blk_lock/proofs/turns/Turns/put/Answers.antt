use Rattle.std.proofs.Common.{ap, ◌∙◌}
use Rattle.blk_lock.specs.Views.{mine}
use Rattle.blk_lock.specs.Plays.{made_since}
use Rattle.blk_lock.proofs.Calls.{mine-put, has_turn, unspent}
use Rattle.blk_lock.proofs.turns.Turns.put.Goals as goal

pub put_world-requires-clause-out : goal.put_world-requires-clause-out
put_world-requires-clause-out g c = has_turn _ _ _ c.args.pass.now.settled c.requires.room

pub returns-clause-unspent : goal.returns-clause-unspent
returns-clause-unspent g c none = ap (λ m. m.0.view.room) c.put_world.ensures.put ∙ unspent _ _ _ (c.requires.unspent none)

pub returns-clause-mine : goal.returns-clause-mine
returns-clause-mine g c =
    let v = c.args.pass.now.seat.me.0.view in let l = g.W.Logged in
    ap (λ m. mine m.0.view) c.put_world.ensures.put ∙ mine-put (made_since v.seen (l.history c.args.turn.world)) (l.spare c.args.turn.world) v c.put_world.ensures.named
