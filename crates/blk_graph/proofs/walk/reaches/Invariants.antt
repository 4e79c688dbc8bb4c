use Rattle.std.proofs.Common.{◌≡◌, ◌-◌, length}
use Rattle.blk_graph.specs.Walk.{AllReached, mark_count}
use Rattle.blk_graph.proofs.walk.reaches.Given as goal

abbrev pub invariant-loop-from : goal.invariant-loop-from
invariant-loop-from l = record {
  reached : AllReached l.edges l.from l.marks;
  room : length l.marks ≡ 64;
}

abbrev pub decreases-loop-from : goal.decreases-loop-from
decreases-loop-from l = 64 - mark_count l.marks
