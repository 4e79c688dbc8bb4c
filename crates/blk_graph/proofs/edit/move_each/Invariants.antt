use Rattle.std.proofs.Common.{◌≡◌, ◌++◌, take, drop, map, vec_capacity, vec_len}
use Rattle.blk_graph.specs.Edits.{moved}
use Rattle.blk_graph.proofs.edit.move_each.Given as goal

abbrev pub invariant-loop-i : goal.invariant-loop-i
invariant-loop-i l = record {
  so_far : take l.i l.edges.items ++ map (moved l.from l.to) (drop l.i l.edges.items) ≡ map (moved l.from l.to) l.fn.edges.items;
  count : vec_len l.edges ≡ vec_len l.fn.edges;
  room : vec_capacity l.edges ≡ vec_capacity l.fn.edges;
}
