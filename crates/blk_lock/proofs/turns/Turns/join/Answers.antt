use Rattle.std.proofs.Common.{rules, ap, ◌∙◌}
use Rattle.blk_lock.specs.Stages.{in_hand}
use Rattle.blk_lock.specs.Plays.{side_of}
use Rattle.blk_lock.specs.Stamps.{OthersAdd}
use Rattle.blk_lock.proofs.Made.{made_by-others}
use Rattle.blk_lock.proofs.Joins.{joins, unites}
use Rattle.blk_lock.proofs.Calls.{rests, united, were_apart, both_made}
use Rattle.blk_lock.proofs.turns.Turns.join.Goals as goal

pub join_seat-requires : goal.join_seat-requires
join_seat-requires g c =
    let pass = c.args.pass.now in let other = c.args.other in
    let rest = rests _ _ pass.settled c.requires.free.0 in let other_rests = rests _ _ other.settled c.requires.free.1 in
    (search rules, search rules, other.in_hand ∙ ap in_hand other_rests, search rules, joins _ _ _ _ _ _ _ _ _ _ rest other_rests)

pub load-requires : goal.load-requires
load-requires g c =
    let p = c.args.pass.now.seat.me.0 in let q = c.args.other.seat.me.0 in
    (search rules, search rules, unites _ _ _ _ _ _ _ _ _ (side_of p.view) (side_of q.view) (ap (λ m. m.0.stage) c.join_seat.ensures.2))

both : (g : _) (c : goal.After-pass-1 g) → OthersAdd g.W.Logged.actor c.args.pass.now.seat.me.0.view.names c.args.pass.now.seat.me.0.view.actors c.args.pass.now.seat.me.0.view.seen c.load.new.seat.me.0.view.seen
    × OthersAdd g.W.Logged.actor c.args.other.seat.me.0.view.names c.args.other.seat.me.0.view.actors c.args.other.seat.me.0.view.seen c.load.new.seat.me.0.view.seen
both g c = united g.W.Logged.actor c.args.pass.now.seat.me.0 c.args.other.seat.me.0 _ _ _ c.join_seat.ensures.2 c.load.ensures.2

pub returns-clause-apart : goal.returns-clause-apart
returns-clause-apart g c = were_apart g.W.Logged.actor c.args.pass.now.seat.me.0 c.args.other.seat.me.0 _ _ _ c.join_seat.ensures.2 c.load.ensures.2

pub returns-clause-goes_on : goal.returns-clause-goes_on
returns-clause-goes_on g c = (both g c).0

pub returns-clause-other_goes_on : goal.returns-clause-other_goes_on
returns-clause-other_goes_on g c = (both g c).1

pub returns-clause-own : goal.returns-clause-own
returns-clause-own g c = made_by-others g.W.Logged.actor _ _ _ _ (both g c).0

pub returns-clause-others_own : goal.returns-clause-others_own
returns-clause-others_own g c = made_by-others g.W.Logged.actor _ _ _ _ (both g c).1

pub returns-clause-mine : goal.returns-clause-mine
returns-clause-mine g c =
    let named = ap (λ m. m.0.view.names) c.load.ensures.2.after ∙ ap (λ m. m.0.view.names) c.join_seat.ensures.2 in
    both_made _ _ _ _ _ _ named (made_by-others g.W.Logged.actor _ _ _ _ (both g c).0) (made_by-others g.W.Logged.actor _ _ _ _ (both g c).1)
