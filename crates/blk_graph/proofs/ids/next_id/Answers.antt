use Rattle.std.proofs.Common.{◌≤◌, length, arith}
use Rattle.blk_graph.proofs.IdLemmas.{length-taken}
use Rattle.blk_graph.proofs.ids.next_id.Goals as goal

pub unreachable-requires : goal.unreachable-requires
unreachable-requires c =
    let many : 64 ≤ length c.args.nodes.now = length-taken 64 c.args.nodes.now (rw c.in-None.is at c.free_id.ensures.none) in
    omega arith
