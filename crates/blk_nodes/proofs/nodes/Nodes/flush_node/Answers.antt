use Rattle.std.proofs.Common.{sym}
use Rattle.blk_nodes.specs.Nodes.{Nodes}
use Rattle.blk_nodes.proofs.Written.{joined_flushed, disks_flushed}
use Rattle.blk_nodes.proofs.nodes.Nodes.flush_node.Goals as goal

pub invariant_of-self : goal.invariant_of-self
invariant_of-self g c =
    let nodes : Nodes = record { graph = c.self.inside.graph; rows = c.self.inside.rows.items; devices = c.self.inside.devices } in
    joined_flushed nodes c.flush_file.new.self c.base-base.result c.flush_file.result c.flush_file.ensures c.self.invariant

pub returns-clause-disks : goal.returns-clause-disks
returns-clause-disks g c =
    let nodes : Nodes = record { graph = c.self.inside.graph; rows = c.self.inside.rows.items; devices = c.self.inside.devices } in
    rw (sym c.self.view_is) (disks_flushed nodes c.flush_file.new.self c.base-base.result c.flush_file.result c.flush_file.ensures c.self.invariant)
