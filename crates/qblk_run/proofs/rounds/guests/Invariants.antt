use Rattle.std.proofs.Common.{◌≡◌}
use Rattle.qblk_run.specs.Turns.{StaysIn}
use Rattle.qblk_run.specs.Worlds.{ComesOnBeside}
use Rattle.qblk_run.specs.Rounds.{AreGuestTurns, Continues}
use Rattle.qblk_run.proofs.rounds.guests.Given as goal

-- the first guests had their turns
abbrev pub invariant-loop-guest : goal.invariant-loop-guest
invariant-loop-guest g l = record {
  so : Continues (g.W.Events.face l.fn.world) (g.W.Events.face l.world) l.fn.actors l.actors;
  script : l.actors.script ≡ l.fn.actors.script;
  turns : AreGuestTurns (g.W.Events.face l.fn.world) (g.W.Events.face l.world) l.fn.actors l.actors l.guest l.moved;
  stays : StaysIn (g.W.Events.face l.fn.world) (g.W.Events.face l.world);
  comes : ComesOnBeside (g.W.Events.face l.fn.world) (g.W.Events.face l.world);
}
