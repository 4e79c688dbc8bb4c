use Rattle.std.proofs.Common.{◌*◌, ℕ, List, None, get_or, sym, ◌∙◌, ap, subst}
use Rattle.q2_image.specs.Image.{cluster_size_in}
use Rattle.q2_image.specs.Writing.{PutFits}
use Rattle.blk_nodes.specs.Changing.{PutsCluster}
use Rattle.blk_nodes.specs.Nodes.{DeviceSeen}
use Rattle.blk_nodes.specs.Writing.{IsImageCall}
use Rattle.blk_nodes.proofs.HeldDevices.{is_placed, at_place, called_over}
use Rattle.blk_nodes.proofs.devices.Devices.put_image.Goals as goal

pub unreachable-requires : goal.unreachable-requires
unreachable-requires g c = is_placed c.args.file c.args.self.now (sym c.place_of.ensures.place ∙ c.in-None.is) c.requires.held

pub put_image-requires-clause-known : goal.put_image-requires-clause-known
put_image-requires-clause-known g c = λ b told.
    let items : List DeviceSeen = c.self.inside.list.items in
    let x : DeviceSeen = c.index_mut-held.result.now in
    let place = rw (sym c.self.view_is) at (sym c.in-Some.ensures.place) in
    let known = rw (sym c.self.view_is) at c.requires.known in
    let content = ap (λ (d : DeviceSeen). d.content) c.index_mut-held.ensures.value in
    known (get_or items c.in-Some.at x) b (at_place c.args.file items c.in-Some.at x place) (sym content ∙ told)

pub returns : goal.returns
returns g c =
    let items : List DeviceSeen = c.self.inside.list.items in
    let x : DeviceSeen = c.index_mut-held.result.now in
    let y : DeviceSeen = c.put_image.new.self in
    let place = rw (sym c.self.view_is) at (sym c.in-Some.ensures.place) in
    let fits : ℕ → Type 0 = PutFits c.args.image.now c.args.cluster in
    rw (sym c.self.view_is)
    (called_over c.args.file items c.in-Some.at x y fits None (PutsCluster c.args.cluster c.args.bytes.now) c.args.image.now c.put_image.new.image (c.args.cluster * cluster_size_in c.args.image.now) c.args.bytes.now c.put_image.result place
    (subst (λ (d : DeviceSeen). IsImageCall (fits d.capacity) None (PutsCluster c.args.cluster c.args.bytes.now) d y c.args.image.now c.put_image.new.image (c.args.cluster * cluster_size_in c.args.image.now) c.args.bytes.now c.put_image.result) c.index_mut-held.ensures.value c.put_image.ensures))

pub put_image-requires-clause-fits : goal.put_image-requires-clause-fits
put_image-requires-clause-fits g c =
    let items : List DeviceSeen = c.self.inside.list.items in
    let x : DeviceSeen = c.index_mut-held.result.now in
    let place = rw (sym c.self.view_is) at (sym c.in-Some.ensures.place) in
    let fits = rw (sym c.self.view_is) at c.requires.fits in
    let content = ap (λ (d : DeviceSeen). d.capacity) c.index_mut-held.ensures.value in
    rw content (fits (get_or items c.in-Some.at x) (at_place c.args.file items c.in-Some.at x place))
