use Rattle.std.proofs.Common.{List, sym, ◌∙◌, ap}
use Rattle.blk_nodes.specs.Nodes.{DeviceSeen}
use Rattle.blk_nodes.proofs.HeldDevices.{at_place, is_placed}
use Rattle.blk_nodes.proofs.devices.Devices.number_of.Goals as goal

pub unreachable-requires : goal.unreachable-requires
unreachable-requires g c = is_placed c.args.file c.args.self.now (sym c.place_of.ensures.place ∙ c.in-None.is) c.requires

pub returns : goal.returns
returns g c =
    let items : List DeviceSeen = c.self.inside.list.items in
    let x : DeviceSeen = c.index-held.result.now in
    let place = rw (sym c.self.view_is) at (sym c.in-Some.ensures.place) in
    rw (sym c.self.view_is, at_place c.args.file items c.in-Some.at x place)
    (c.number.ensures ∙ ap (λ (d : DeviceSeen). d.number) c.index-held.ensures)
