use Rattle.std.proofs.Common.{◌≡◌, ◌<◌, ℕ, ◌-◌, length, get_or, false}
use Rattle.blk_graph.specs.declared.edge.Edge.{Edge}
use Rattle.blk_graph.specs.Clear.{AreClear, is_unclear}
use Rattle.blk_graph.specs.Walk.{mark_count}
use Rattle.blk_graph.proofs.cycle.has_cycle.Given as goal

abbrev pub invariant-loop : goal.invariant-loop
invariant-loop l = record {
  clear : AreClear l.edges l.clear;
  room : length l.clear ≡ 64;
}

abbrev pub decreases-loop : goal.decreases-loop
decreases-loop l = 64 - mark_count l.clear

abbrev pub invariant-loop-edge : goal.invariant-loop-edge
invariant-loop-edge l = (k : ℕ) (d : Edge) → k < l.edge-index → is_unclear l.clear (get_or l.edges k d) ≡ false
