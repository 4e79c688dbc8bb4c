use Rattle.std.proofs.Common.{sym}
use Rattle.blk_graph.specs.Refreshed.{refreshed}
use Rattle.blk_nodes.specs.Jobs.{with_job_edges}
use Rattle.blk_nodes.specs.Nodes.{Nodes}
use Rattle.blk_nodes.proofs.Additions.{joined_edges}
use Rattle.blk_nodes.proofs.Disks.{disks_edges}
use Rattle.blk_nodes.proofs.Jobs.{job_children}
use Rattle.blk_nodes.proofs.nodes.Nodes.use_nodes.Goals as goal

pub draw_uses-requires-clause-nodes : goal.draw_uses-requires-clause-nodes
draw_uses-requires-clause-nodes g c = rw (sym c.self.view_is) at c.requires.nodes

pub invariant_of-self-2 : goal.invariant_of-self-2
invariant_of-self-2 g c =
    let nodes : Nodes = record { graph = c.self.inside.graph; rows = c.self.inside.rows.items; devices = c.self.inside.devices } in
    rw (c.take_drawn.ensures, c.in_default.ensures.drawn)
    (joined_edges nodes (refreshed c.self.inside.graph.kinds (with_job_edges c.args.job c.args.uses.now c.self.inside.graph.edges)) c.self.invariant
    (rw c.in_default.ensures.drawn at c.in_default.ensures.sound)
    (job_children c.self.inside.graph.kinds c.args.job c.args.uses.now c.self.inside.graph.edges))

pub returns-clause-disks : goal.returns-clause-disks
returns-clause-disks g c =
    let nodes : Nodes = record { graph = c.self.inside.graph; rows = c.self.inside.rows.items; devices = c.self.inside.devices } in
    rw (c.take_drawn.ensures, c.in_default.ensures.drawn, sym c.self.view_is)
    (disks_edges nodes (refreshed c.self.inside.graph.kinds (with_job_edges c.args.job c.args.uses.now c.self.inside.graph.edges))
    (job_children c.self.inside.graph.kinds c.args.job c.args.uses.now c.self.inside.graph.edges))

pub returns-in-Err-clause-kept : goal.returns-in-Err-clause-kept
returns-in-Err-clause-kept g c = rw (sym c.self.view_is) (rw c.in-Err.ensures.drawn at c.in-Err.ensures.kept)
