use Rattle.blk_graph.proofs.ListedLemmas.{IsListed-filter}
use Rattle.blk_graph.proofs.edit.drop_filter.Goals as goal

pub move_all-requires : goal.move_all-requires
move_all-requires c = rw c.drop_own.ensures.items (IsListed-filter _ c.args.edges.now.items c.requires)
