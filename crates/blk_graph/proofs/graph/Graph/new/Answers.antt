use Rattle.std.proofs.Common.{◌∙◌, sym, arith, ◌≤◌}
use Rattle.std.specs.Vec.{vec_capacity}
use Rattle.blk_graph.proofs.NodeLemmas.{IsKept-empty}
use Rattle.blk_graph.proofs.graph.Graph.new.Goals as goal

pub invariant_of-result-2 : goal.invariant_of-result-2
invariant_of-result-2 c =
    let fits : 64 ≤ vec_capacity c.in_ok-with_capacity.field-0 = c.in_ok-with_capacity.ensures.capacity in
    rw (c.names.view_is, c.in_ok-with_capacity.ensures.items, c.in_ok-new.ensures)
    (IsKept-empty c.in_ok-names.names (vec_capacity c.in_ok-with_capacity.field-0) c.in_ok-names.ensures.empty
    (sym c.capacity.ensures.value ∙ omega arith) fits)
