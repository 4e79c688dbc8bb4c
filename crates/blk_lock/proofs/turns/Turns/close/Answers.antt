use Rattle.blk_lock.proofs.Calls.{rests}
use Rattle.blk_lock.proofs.Ends.{IsAllOwn, ends, whole_as}
use Rattle.blk_lock.proofs.turns.Turns.close.Goals as goal

pub unreachable-requires : goal.unreachable-requires
unreachable-requires g c =
    let pass = c.args.pass in
    let back = ends _ _ _ _ _ _ _ _ _ _ _ c.close_with-closed.ensures.values.2 (rests _ _ pass.settled c.requires.free) c.requires.all c.take-world.ensures.value in
    c.in_default.not-Some back.0 back.1

whole : (g : _) (c : goal.In-Some g) → IsAllOwn g.W.Logged.history g.W.Logged.spare g.W.Logged.comes c.args.pass.seat.me.0 c.in-Some.world
whole g c =
    let pass = c.args.pass in
    let back = ends _ _ _ _ _ _ _ _ _ _ _ c.close_with-closed.ensures.values.2 (rests _ _ pass.settled c.requires.free) c.requires.all c.take-world.ensures.value in
    whole_as _ _ _ _ _ _ _ back.1 c.in-Some.is back.2

pub returns-clause-history : goal.returns-clause-history
returns-clause-history g c = (whole g c).told

pub returns-clause-opened : goal.returns-clause-opened
returns-clause-opened g c = (whole g c).opened

pub returns-clause-mine : goal.returns-clause-mine
returns-clause-mine g c = (whole g c).made

pub returns-clause-room : goal.returns-clause-room
returns-clause-room g c = (whole g c).room
