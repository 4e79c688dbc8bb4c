use Rattle.std.proofs.Common.{◌≡◌, ◌++◌, take, drop}
use Rattle.blk_graph.specs.Edits.{with_edge}
use Rattle.blk_graph.proofs.edit.place_of.Given as goal

abbrev pub invariant-loop-i : goal.invariant-loop-i
invariant-loop-i l = take l.i l.edges ++ with_edge l.new (drop l.i l.edges) ≡ with_edge l.new l.edges
