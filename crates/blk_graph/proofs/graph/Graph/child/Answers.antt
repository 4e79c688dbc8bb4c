use Rattle.std.proofs.Common.{sym, ◌∙◌, ap}
use Rattle.blk_graph.specs.Edits.{child_of}
use Rattle.blk_graph.specs.Layout.{graph_of}
use Rattle.blk_graph.proofs.ChildLemmas.{child-node}
use Rattle.blk_graph.proofs.graph.Graph.child.Goals as goal

pub returns-clause-there : goal.returns-clause-there
returns-clause-there c =
    rw (sym c.self.view_is)
    (child-node (graph_of c.self.inside.names c.self.inside.keys c.self.inside.order.items c.self.inside.kinds c.self.inside.edges) c.args.parent c.args.role c.child.result
    c.self.invariant.sound (c.child.ensures ∙ ap (child_of c.args.parent c.args.role) c.as_slice.ensures.edges))
