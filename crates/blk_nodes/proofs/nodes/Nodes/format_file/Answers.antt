use Rattle.std.proofs.Common.{sym}
use Rattle.std.specs.Option.{option_copied}
use Rattle.q2_format.specs.Created.{Creation, creation_of}
use Rattle.blk_nodes.specs.Nodes.{Nodes}
use Rattle.blk_nodes.proofs.Formatted.{joined_formatted, others_formatted}
use Rattle.blk_nodes.proofs.nodes.Nodes.format_file.Goals as goal

pub invariant_of-self : goal.invariant_of-self
invariant_of-self g c =
    let nodes : Nodes = record { graph = c.self.inside.graph; rows = c.self.inside.rows.items; devices = c.self.inside.devices } in
    let new : Creation = creation_of c.args.size (option_copied c.args.backing_file) (option_copied c.args.backing_fmt) in
    let lone = rw (sym c.self.view_is) at c.requires.lone in
    joined_formatted nodes c.args.node lone c.create_image.new.self new c.create_image.result c.create_image.ensures c.self.invariant

pub returns-clause-others : goal.returns-clause-others
returns-clause-others g c =
    let nodes : Nodes = record { graph = c.self.inside.graph; rows = c.self.inside.rows.items; devices = c.self.inside.devices } in
    let new : Creation = creation_of c.args.size (option_copied c.args.backing_file) (option_copied c.args.backing_fmt) in
    let lone = rw (sym c.self.view_is) at c.requires.lone in
    rw (sym c.self.view_is)
    (others_formatted nodes c.args.node lone c.create_image.new.self new c.create_image.result c.create_image.ensures)
