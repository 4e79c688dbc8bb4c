use Rattle.std.proofs.Common.{List, sym, ◌∙◌, subst}
use Rattle.q2_image.specs.Writing.{PutFits}
use Rattle.blk_nodes.specs.Nodes.{DeviceSeen}
use Rattle.blk_nodes.specs.Writing.{HasRoomBy}
use Rattle.blk_nodes.proofs.HeldDevices.{is_placed, room_over}
use Rattle.blk_nodes.proofs.devices.Devices.room_for_put.Goals as goal

pub unreachable-requires : goal.unreachable-requires
unreachable-requires g c = is_placed c.args.file c.args.self.now (sym c.place_of.ensures.place ∙ c.in-None.is) c.requires.held

pub returns : goal.returns
returns g c =
    let items : List DeviceSeen = c.self.inside.list.items in
    let x : DeviceSeen = c.index-held.result.now in
    let place = rw (sym c.self.view_is) at (sym c.in-Some.ensures.place) in
    rw (sym c.self.view_is)
    (room_over c.args.file items c.in-Some.at x (PutFits c.args.image.now c.args.cluster) c.room_for_put.result place
    (subst (λ (d : DeviceSeen). HasRoomBy (PutFits c.args.image.now c.args.cluster d.capacity) d c.room_for_put.result) c.index-held.ensures c.room_for_put.ensures))
