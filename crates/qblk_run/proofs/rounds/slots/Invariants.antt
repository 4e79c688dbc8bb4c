use Rattle.qblk_run.specs.Turns.{StaysIn}
use Rattle.qblk_run.specs.Worlds.{ComesOnBeside}
use Rattle.qblk_run.specs.Rounds.{AreSlotTurns, Continues}
use Rattle.qblk_run.proofs.rounds.slots.Given as goal

-- the first slots had their turns
abbrev pub invariant-loop-slot : goal.invariant-loop-slot
invariant-loop-slot g l = record {
  so : Continues (g.W.Events.face l.fn.world) (g.W.Events.face l.world) l.actors l.actors;
  turns : AreSlotTurns (g.W.Events.face l.fn.world) (g.W.Events.face l.world) l.actors l.slot l.moved;
  stays : StaysIn (g.W.Events.face l.fn.world) (g.W.Events.face l.world);
  comes : ComesOnBeside (g.W.Events.face l.fn.world) (g.W.Events.face l.world);
}
