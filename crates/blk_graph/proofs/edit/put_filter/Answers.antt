use Rattle.std.proofs.Common.{length, ap, arith}
use Rattle.blk_graph.proofs.EditLemmas.{length-with_moved}
use Rattle.blk_graph.proofs.edit.put_filter.Goals as goal

pub push_reserved-requires : goal.push_reserved-requires
push_reserved-requires c =
    omega (
      arith,
      c.requires.room,
      c.move_all.ensures.capacity,
      ap length c.move_all.ensures.items,
      length-with_moved c.args.node c.args.filter c.args.edges.now.items,
    )
