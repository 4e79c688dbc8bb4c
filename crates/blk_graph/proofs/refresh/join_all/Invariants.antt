use Rattle.std.proofs.Common.{◌≡◌, drop, length}
use Rattle.blk_graph.specs.Refreshed.{uses_into, IsTable}
use Rattle.blk_graph.proofs.refresh.join_all.Given as goal

abbrev pub invariant-loop-i : goal.invariant-loop-i
invariant-loop-i l = record {
  table : IsTable (uses_into (drop l.i l.edges)) l.above;
  room : length l.above ≡ 64;
}
