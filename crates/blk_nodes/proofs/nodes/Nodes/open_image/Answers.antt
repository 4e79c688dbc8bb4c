use Rattle.std.proofs.Common.{sym}
use Rattle.blk_nodes.specs.Joined.{IsFile}
use Rattle.blk_nodes.specs.Nodes.{Nodes}
use Rattle.blk_nodes.proofs.Disks.{disks_risen}
use Rattle.blk_nodes.proofs.Joints.{held_by, joined_after}
use Rattle.blk_nodes.proofs.nodes.Nodes.open_image.Goals as goal

pub open_image-requires : goal.open_image-requires
open_image-requires g c =
    let nodes : Nodes = record { graph = c.self.inside.graph; rows = c.self.inside.rows.items; devices = c.self.inside.devices } in
    let is_file : IsFile nodes c.args.file = rw (sym c.self.view_is) at c.requires in
    held_by nodes c.args.file c.self.invariant is_file

pub invariant_of-self : goal.invariant_of-self
invariant_of-self g c =
    let nodes : Nodes = record { graph = c.self.inside.graph; rows = c.self.inside.rows.items; devices = c.self.inside.devices } in
    joined_after nodes c.open_image.new.self c.open_image.ensures.risen c.self.invariant

pub returns-clause-disks : goal.returns-clause-disks
returns-clause-disks g c =
    let nodes : Nodes = record { graph = c.self.inside.graph; rows = c.self.inside.rows.items; devices = c.self.inside.devices } in
    rw (sym c.self.view_is) (disks_risen nodes c.open_image.new.self c.open_image.ensures.risen)
