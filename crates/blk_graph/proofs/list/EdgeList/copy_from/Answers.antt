use Rattle.std.proofs.Common.{length, ap, arith}
use Rattle.blk_graph.proofs.ListedLemmas.{length-listed}
use Rattle.blk_graph.proofs.list.EdgeList.copy_from.Goals as goal

pub copy_all-requires-clause-room : goal.copy_all-requires-clause-room
copy_all-requires-clause-room c =
    omega (
      arith,
      ap length c.as_slice.ensures.value,
      length-listed c.other.inside.edges.items c.other.invariant.1,
      c.clear.ensures.capacity,
      c.self.invariant.0,
    )
