use Rattle.std.proofs.Common.{length, subst, sym, Bool}
use Rattle.qblk_run.specs.Rounds.{Goes}
use Rattle.qblk_run.specs.Tasks.{ScriptTask}
use Rattle.qblk_run.specs.Worlds.{HasCome}
use Rattle.qblk_run.proofs.Continuing.{round-goes}
use Rattle.qblk_run.proofs.rounds.round.Goals as goal

pub returns-clause-round : goal.returns-clause-round
returns-clause-round g c =
    let w = g.W.Events.face c.args.world.now in
    let v = g.W.Events.face c.next_script.new.world in
    let u = g.W.Events.face c.guests-asked.new.world in
    let x = g.W.Events.face c.slots-copied.new.world in
    let a = c.args.actors.now in
    let b = c.next_script.new.actors in
    let d = c.guests-asked.new.actors in
    subst (λ (moved : Bool). Goes w x a d (length d.guests) 16 moved) (sym c.one_of.ensures)
    (round-goes w v u x a b d c.in-Ok.moved c.guests-asked.result c.slots-copied.result c.in-Ok.ensures.goes c.in-Ok.ensures.turn
    c.guests-asked.ensures.goes c.guests-asked.ensures.script c.guests-asked.ensures.turns c.slots-copied.ensures.goes c.slots-copied.ensures.turns)

pub returns-clause-comes : goal.returns-clause-comes
returns-clause-comes g c = λ o d first was.
    let v = g.W.Events.face c.next_script.new.world in
    let u = g.W.Events.face c.guests-asked.new.world in
    let x = g.W.Events.face c.slots-copied.new.world in
    let b = c.next_script.new.actors in
    let after = c.guests-asked.ensures.comes b.script.orders o d first (c.in-Ok.ensures.comes o d first was) in
    subst (λ (s : ScriptTask). HasCome o d first x s.orders) (sym c.guests-asked.ensures.script)
    (c.slots-copied.ensures.comes b.script.orders o d first after)
