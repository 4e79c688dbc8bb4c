use Rattle.std.proofs.Common.{sym}
use Rattle.blk_graph.specs.Edits.{without_parent}
use Rattle.blk_graph.specs.Refreshed.{refreshed}
use Rattle.blk_graph.specs.declared.edge.Parent.TheVariants.{Job}
use Rattle.blk_nodes.specs.Nodes.{Nodes}
use Rattle.blk_nodes.proofs.Additions.{joined_edges}
use Rattle.blk_nodes.proofs.Disks.{disks_edges}
use Rattle.blk_nodes.proofs.Jobs.{ended_children}
use Rattle.blk_nodes.proofs.nodes.Nodes.end_job.Goals as goal

pub invariant_of-self : goal.invariant_of-self
invariant_of-self g c =
    let nodes : Nodes = record { graph = c.self.inside.graph; rows = c.self.inside.rows.items; devices = c.self.inside.devices } in
    rw c.clear_edges.ensures.edges
    (joined_edges nodes (refreshed c.self.inside.graph.kinds (without_parent (Job c.args.job) c.self.inside.graph.edges)) c.self.invariant
    (rw c.clear_edges.ensures.edges at c.clear_edges.ensures.sound)
    (ended_children c.self.inside.graph.kinds c.args.job c.self.inside.graph.edges))

pub returns-clause-disks : goal.returns-clause-disks
returns-clause-disks g c =
    let nodes : Nodes = record { graph = c.self.inside.graph; rows = c.self.inside.rows.items; devices = c.self.inside.devices } in
    rw (c.clear_edges.ensures.edges, sym c.self.view_is)
    (disks_edges nodes (refreshed c.self.inside.graph.kinds (without_parent (Job c.args.job) c.self.inside.graph.edges))
    (ended_children c.self.inside.graph.kinds c.args.job c.self.inside.graph.edges))
