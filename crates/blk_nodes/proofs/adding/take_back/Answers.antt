use Rattle.std.proofs.Common.{sym, ◌∙◌}
use Rattle.blk_graph.proofs.ChildLemmas.{lone-unused}
use Rattle.blk_nodes.proofs.adding.take_back.Goals as goal

pub unreachable-requires : goal.unreachable-requires
unreachable-requires c =
    let unused = lone-unused c.args.node c.args.graph.now.edges c.requires.lone in
    let good = rw unused at c.remove_node.ensures.answer in
    let bad = sym good ∙ c.in-Err.is in
    absurd (cc bad)
