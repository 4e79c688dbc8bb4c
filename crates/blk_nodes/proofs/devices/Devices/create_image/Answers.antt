use Rattle.std.proofs.Common.{List, sym, ◌∙◌, subst}
use Rattle.std.specs.Option.{option_copied}
use Rattle.q2_format.specs.Created.{Creation, creation_of}
use Rattle.blk_nodes.specs.Nodes.{DeviceSeen}
use Rattle.blk_nodes.specs.Formatting.{IsFormatOf}
use Rattle.blk_nodes.proofs.Formatted.{formatted_over}
use Rattle.blk_nodes.proofs.HeldDevices.{is_placed}
use Rattle.blk_nodes.proofs.devices.Devices.create_image.Goals as goal

pub unreachable-requires : goal.unreachable-requires
unreachable-requires g c = is_placed c.args.file c.args.self.now (sym c.place_of.ensures.place ∙ c.in-None.is) c.requires.held

pub returns : goal.returns
returns g c =
    let items : List DeviceSeen = c.self.inside.list.items in
    let x : DeviceSeen = c.index_mut-held.result.now in
    let y : DeviceSeen = c.create_image.new.self in
    let new : Creation = creation_of c.args.size (option_copied c.args.name) (option_copied c.args.format) in
    let place = rw (sym c.self.view_is) at (sym c.in-Some.ensures.place) in
    rw (sym c.self.view_is)
    (formatted_over c.args.file items c.in-Some.at x y new c.create_image.result place
    (subst (λ (d : DeviceSeen). IsFormatOf d y new c.create_image.result) c.index_mut-held.ensures.value c.create_image.ensures))
