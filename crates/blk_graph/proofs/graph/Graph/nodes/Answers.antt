use Rattle.std.proofs.Common.{sym, ◌∙◌}
use Rattle.blk_graph.proofs.GraphLemmas.{ids-graph_of}
use Rattle.blk_graph.proofs.graph.Graph.nodes.Goals as goal

pub returns-clause-nodes : goal.returns-clause-nodes
returns-clause-nodes c =
    rw (sym c.self.view_is)
    (c.as_slice.ensures.value ∙ sym (ids-graph_of c.self.inside.names c.self.inside.keys c.self.inside.order.items c.self.inside.kinds c.self.inside.edges))
