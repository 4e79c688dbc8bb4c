use Rattle.std.proofs.Common.{◌≡◌, vec_capacity}
use Rattle.blk_graph.specs.Refreshed.{turned_by}
use Rattle.blk_graph.proofs.refresh.refresh.Given as goal

abbrev pub invariant-loop : goal.invariant-loop
invariant-loop l = record {
  so_far : l.edges.items ≡ turned_by l.counter l.kinds l.fn.edges.items;
  room : vec_capacity l.edges ≡ vec_capacity l.fn.edges;
}
