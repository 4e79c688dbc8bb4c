use Rattle.std.proofs.Common.{◌≡◌, drop, length}
use Rattle.blk_graph.specs.Clear.{AreWaiting}
use Rattle.blk_graph.proofs.cycle.show_waiting.Given as goal

abbrev pub invariant-loop-i : goal.invariant-loop-i
invariant-loop-i l = record {
  waits : AreWaiting (drop l.i l.edges) l.clear l.waiting;
  room : length l.waiting ≡ 64;
}
