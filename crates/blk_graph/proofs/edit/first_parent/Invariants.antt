use Rattle.std.proofs.Common.{◌≡◌, drop}
use Rattle.blk_graph.specs.Judged.{first_parent}
use Rattle.blk_graph.proofs.edit.first_parent.Given as goal

abbrev pub invariant-loop-edge : goal.invariant-loop-edge
invariant-loop-edge l = first_parent l.node (drop l.edge-index l.edges) ≡ first_parent l.node l.edges
