use Rattle.std.specs.Prelude.{not}
use Rattle.blk_graph.specs.declared.edge.Parent.TheVariants.{Job}
use Rattle.blk_graph.specs.Edges.{same_parent}
use Rattle.blk_graph.proofs.ListedLemmas.{IsListed-filter}
use Rattle.blk_graph.proofs.edit.pivot.Goals as goal

pub drop_filter-requires : goal.drop_filter-requires
drop_filter-requires c =
    rw c.drop_parent.ensures.items
    (IsListed-filter (λ edge. not (same_parent edge.parent (Job c.args.job))) c.args.edges.now.items c.requires)
