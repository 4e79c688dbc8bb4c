use Rattle.std.proofs.Common.{sym}
use Rattle.blk_graph.proofs.NodeLemmas.{found_row, no_row}
use Rattle.blk_graph.proofs.graph.Graph.node_named.Goals as goal

pub returns-clause-found : goal.returns-clause-found
returns-clause-found c =
    rw (sym c.self.view_is)
    (found_row c.self.inside.names c.self.inside.keys c.self.inside.order.items c.self.inside.kinds c.self.inside.edges c.as_slice.result.now c.args.name.now
    c.node_named.result c.as_slice.ensures.value c.node_named.ensures.found c.node_named.ensures.named)

pub returns-clause-none : goal.returns-clause-none
returns-clause-none c =
    rw (sym c.self.view_is)
    (no_row c.self.inside.names c.self.inside.keys c.self.inside.order.items c.self.inside.kinds c.self.inside.edges c.as_slice.result.now c.args.name.now
    c.node_named.result c.as_slice.ensures.value c.node_named.ensures.none)
