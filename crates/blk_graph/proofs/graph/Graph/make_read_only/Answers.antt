use Rattle.blk_graph.proofs.KindLemmas.{IsKept-read_only}
use Rattle.blk_graph.proofs.graph.Graph.make_read_only.Goals as goal

pub invariant_of-self : goal.invariant_of-self
invariant_of-self c =
    rw (c.refresh.ensures.edges, c.set_writes.ensures)
    (IsKept-read_only c.self.inside.names c.self.inside.keys c.self.inside.order.items c.self.inside.kinds c.self.inside.edges _
    c.self.invariant c.args.node)

pub returns-clause-sound : goal.returns-clause-sound
returns-clause-sound c = (invariant_of-self c).sound
