use Rattle.std.proofs.Common.{◌≡◌, List, Some, refl, sym, ◌∙◌, ap}
use Rattle.std.specs.Prelude.{AllPairs}
use Rattle.blk_nodes.specs.Joined.{DifferInNode}
use Rattle.blk_nodes.specs.Nodes.{DeviceSeen, device_in}
use Rattle.blk_nodes.proofs.Dropped.{removed, none_gone, unplaced}
use Rattle.blk_nodes.proofs.HeldDevices.{at_place}
use Rattle.blk_nodes.proofs.devices.Devices.take_out.Goals as goal

pub returns-in-Some-clause-left : goal.returns-in-Some-clause-left
returns-in-Some-clause-left g c =
    let items : List DeviceSeen = c.self.inside.list.items in
    let place = rw (sym c.self.view_is) at (sym c.in-Some.ensures.place) in
    let once : AllPairs DifferInNode items = rw (sym c.self.view_is) at c.requires in
    rw (sym c.self.view_is) (c.remove-held.ensures.items ∙ removed c.args.node items c.in-Some.at c.remove-held.result place once)

pub returns-in-Some-clause-device : goal.returns-in-Some-clause-device
returns-in-Some-clause-device g c =
    let items : List DeviceSeen = c.self.inside.list.items in
    let x : DeviceSeen = c.remove-held.result in
    let place = rw (sym c.self.view_is) at (sym c.in-Some.ensures.place) in
    let found : device_in items c.args.node ≡ Some x = at_place c.args.node items c.in-Some.at x place ∙ ap (λ (d : DeviceSeen). Some d) (sym c.remove-held.ensures.value) in
    (x, rw (sym c.self.view_is) found, rw (sym c.held.view_is) refl)

pub returns-in-None-clause-left : goal.returns-in-None-clause-left
returns-in-None-clause-left g c = sym (none_gone c.args.node c.args.self.now (unplaced c.args.node c.args.self.now (sym c.place_of.ensures.place ∙ c.in-None.is)))

pub returns-in-None-clause-device : goal.returns-in-None-clause-device
returns-in-None-clause-device g c = unplaced c.args.node c.args.self.now (sym c.place_of.ensures.place ∙ c.in-None.is)
