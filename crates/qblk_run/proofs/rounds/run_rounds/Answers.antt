use Rattle.std.proofs.Common.{Bool, length, subst}
use Rattle.qblk_run.specs.Rounds.{Goes}
use Rattle.qblk_run.specs.Slots.{StandsInRun}
use Rattle.qblk_run.proofs.Continuing.{round-lowers, round-rests}
use Rattle.qblk_run.proofs.rounds.run_rounds.Goals as goal

pub round-requires-clause-stands : goal.round-requires-clause-stands
round-requires-clause-stands g c = c.loop-stop.invariant.so.stands c.requires.stands

pub loop-stop-smaller : goal.loop-stop-smaller
loop-stop-smaller g c =
    let w = g.W.Events.face c.loop-stop.world in
    let v = g.W.Events.face c.round.new.world in
    let turned = c.in-Ok-true.ensures.goes in
    let stands : StandsInRun v = turned.stands (c.loop-stop.invariant.so.stands c.requires.stands) in
    round-lowers w v c.loop-stop.actors c.round.new.actors (length c.round.new.actors.guests) stands
    (subst (λ (b : Bool). Goes w v c.loop-stop.actors c.round.new.actors (length c.round.new.actors.guests) 16 b) c.in-Ok-true.field-0-test c.in-Ok-true.ensures.round)

pub returns-in-Ok-false-clause-rest : goal.returns-in-Ok-false-clause-rest
returns-in-Ok-false-clause-rest g c =
    let w = g.W.Events.face c.loop-stop.world in
    let v = g.W.Events.face c.round.new.world in
    let turned = c.in-Ok-false.ensures.goes in
    round-rests w v c.loop-stop.actors c.round.new.actors turned.can (turned.stands (c.loop-stop.invariant.so.stands c.requires.stands))
    (turned.drains (c.loop-stop.invariant.so.drains c.requires.drains))
    (subst (λ (b : Bool). Goes w v c.loop-stop.actors c.round.new.actors (length c.round.new.actors.guests) 16 b) c.in-Ok-false.field-0-test c.in-Ok-false.ensures.round)

pub returns-in-Err-clause-stop : goal.returns-in-Err-clause-stop
returns-in-Err-clause-stop g c = record {
  near = g.W.Events.face c.loop-stop.world;
  after = c.loop-stop.actors;
  so = c.loop-stop.invariant.so;
  comes = c.loop-stop.invariant.comes;
  undone = c.in-Err.ensures.stop;
}
