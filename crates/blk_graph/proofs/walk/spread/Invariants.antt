use Rattle.std.proofs.Common.{◌≡◌, ◌<◌, ◌≤◌, ℕ, get_or, true, false}
use Rattle.blk_graph.specs.declared.edge.Edge.{Edge}
use Rattle.blk_graph.specs.Walk.{AllReached, leads_on, mark_count}
use Rattle.blk_graph.proofs.walk.spread.Given as goal

abbrev pub invariant-loop-edge : goal.invariant-loop-edge
invariant-loop-edge l = record {
  reached : AllReached l.edges l.from l.marks;
  fewer : mark_count l.initial.marks ≤ mark_count l.marks;
  grown : l.grew ≡ true → mark_count l.initial.marks < mark_count l.marks;
  none : l.grew ≡ false → (k : ℕ) (d : Edge) → k < l.edge-index → leads_on l.from l.marks (get_or l.edges k d) ≡ false;
}
