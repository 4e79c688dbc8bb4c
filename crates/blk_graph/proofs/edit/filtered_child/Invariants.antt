use Rattle.std.proofs.Common.{◌≡◌, drop}
use Rattle.std.specs.List.{find}
use Rattle.blk_graph.specs.Edits.{is_filters}
use Rattle.blk_graph.proofs.edit.filtered_child.Given as goal

abbrev pub invariant-loop-edge : goal.invariant-loop-edge
invariant-loop-edge l = find (is_filters l.filter) (drop l.edge-index l.edges) ≡ find (is_filters l.filter) l.edges
