use Rattle.std.proofs.Common.{List, subst, ap, length, arith}
use Rattle.std.proofs.lemmas.List.{with_items_is}
use Rattle.qblk_run.specs.Tasks.{Task}
use Rattle.qblk_run.specs.Rounds.{HasTurn}
use Rattle.qblk_run.proofs.Continuing.{turn-continues-in, turn-length}
use Rattle.qblk_run.proofs.rounds.next_guest.Goals as goal

pub returns-clause-goes : goal.returns-clause-goes
returns-clause-goes g c =
    let w = g.W.Events.face c.args.world.now in
    let v = g.W.Events.face c.turn_in.new.world in
    let turn = subst (λ (old : List Task). HasTurn w v old c.turn_in.new.tasks c.args.guest c.turn_in.result) c.as_mut_slice.ensures.value c.turn_in.ensures.turn in
    let size = turn-length w v c.actors.inside.guests.items c.turn_in.new.tasks c.args.guest c.turn_in.result turn in
    let same = with_items_is c.actors.inside.guests c.turn_in.new.tasks (omega (arith, size, c.as_mut_slice.ensures.len, ap length c.as_mut_slice.ensures.value)) in
    rw same (turn-continues-in w v _ c.actors.inside.guests.items c.turn_in.new.tasks c.args.actors.now c.args.guest c.turn_in.result c.actors.view_is c.requires.can c.turn_in.ensures.stays turn)
