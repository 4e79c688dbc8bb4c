use Rattle.std.proofs.Common.{◌≡◌, ℕ, ◌++◌, take, drop, map, vec_capacity, vec_len, true}
use Rattle.blk_graph.specs.declared.edge.Uses.{Uses}
use Rattle.blk_graph.specs.Refreshed.{ruled, IsTable}
use Rattle.blk_graph.proofs.refresh.rule_all.Given as goal

abbrev pub invariant-loop-i : goal.invariant-loop-i
invariant-loop-i l = record {
  so_far : (uses : ℕ → Uses) → IsTable uses l.above
      → take l.i l.edges.items ++ map (ruled l.kinds uses) (drop l.i l.edges.items) ≡ map (ruled l.kinds uses) l.fn.edges.items;
  same : l.same ≡ true → l.edges.items ≡ l.fn.edges.items;
  count : vec_len l.edges ≡ vec_len l.fn.edges;
  room : vec_capacity l.edges ≡ vec_capacity l.fn.edges;
}
