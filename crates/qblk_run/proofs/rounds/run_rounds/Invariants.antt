use Rattle.std.proofs.Common.{◌*◌, ◌+◌, ◌^◌}
use Rattle.qblk_run.specs.Rounds.{Continues, steps_in}
use Rattle.qblk_run.specs.Slots.{parts_left}
use Rattle.qblk_run.specs.Turns.{StaysIn}
use Rattle.qblk_run.specs.Worlds.{ComesOn}
use Rattle.qblk_run.proofs.rounds.run_rounds.Given as goal

-- some rounds were made
abbrev pub invariant-loop-stop : goal.invariant-loop-stop
invariant-loop-stop g l = record {
  so : Continues (g.W.Events.face l.fn.world) (g.W.Events.face l.world) l.fn.actors l.actors;
  stays : StaysIn (g.W.Events.face l.fn.world) (g.W.Events.face l.world);
  comes : ComesOn (g.W.Events.face l.fn.world) (g.W.Events.face l.world) l.fn.actors.script.orders l.actors.script.orders;
}

-- entries first, and then what is left to copy, of which there is less than so much
abbrev pub decreases-loop-stop : goal.decreases-loop-stop
decreases-loop-stop g l = steps_in (g.W.Events.face l.world) l.actors * 2 ^ 64 + parts_left (g.W.Events.face l.world).works
