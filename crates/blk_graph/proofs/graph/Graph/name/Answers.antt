use Rattle.std.proofs.Common.{sym}
use Rattle.blk_graph.proofs.NodeLemmas.{Contains-order, Contains-row}
use Rattle.blk_graph.proofs.graph.Graph.name.Goals as goal

pub name_at-requires-clause-named : goal.name_at-requires-clause-named
name_at-requires-clause-named c =
    c.self.invariant.named c.args.node
    (Contains-order c.self.inside.names c.self.inside.keys c.self.inside.order.items c.self.inside.kinds c.self.inside.edges c.args.node (rw (← c.self.view_is) at c.requires))

pub returns : goal.returns
returns c =
    let there = Contains-order c.self.inside.names c.self.inside.keys c.self.inside.order.items c.self.inside.kinds c.self.inside.edges c.args.node
    (rw (← c.self.view_is) at c.requires) in
    rw (sym c.self.view_is, c.name_at.ensures)
    (Contains-row c.self.inside.names c.self.inside.keys c.self.inside.order.items c.self.inside.kinds c.self.inside.edges c.args.node there)
