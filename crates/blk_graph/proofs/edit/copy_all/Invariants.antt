use Rattle.std.proofs.Common.{◌≡◌, ◌≤◌, ◌++◌, drop, vec_capacity, vec_len}
use Rattle.blk_graph.proofs.edit.copy_all.Given as goal

abbrev pub invariant-loop-edge : goal.invariant-loop-edge
invariant-loop-edge l = record {
  so_far : l.out.items ++ drop l.edge-index l.edges ≡ l.edges;
  count : vec_len l.out ≤ l.edge-index;
  room : vec_capacity l.out ≡ vec_capacity l.fn.out;
}
