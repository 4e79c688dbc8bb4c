use Rattle.std.proofs.Common.{below_more}
use Rattle.std.specs.List.{Contains}
use Rattle.blk_graph.proofs.ids.free_id.Goals as goal

pub loop-id-preserved : goal.loop-id-preserved
loop-id-preserved c =
    let here : Contains c.args.nodes.now c.new-node.result = c.has_id.ensures.0 c.if-not-has_id.false in
    below_more _ _ c.loop-id.invariant (rw c.new-node.ensures at here)
