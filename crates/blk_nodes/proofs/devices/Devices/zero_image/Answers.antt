use Rattle.std.proofs.Common.{◌*◌, ℕ, List, None, get_or, replicate, sym, ◌∙◌, ap, subst}
use Rattle.q2_image.specs.Image.{cluster_size_in}
use Rattle.q2_image.specs.Writing.{ZeroFits}
use Rattle.blk_nodes.specs.Changing.{ClearsCluster}
use Rattle.blk_nodes.specs.Nodes.{DeviceSeen}
use Rattle.blk_nodes.specs.Writing.{IsImageCall}
use Rattle.blk_nodes.proofs.HeldDevices.{is_placed, at_place, called_over}
use Rattle.blk_nodes.proofs.devices.Devices.zero_image.Goals as goal

pub unreachable-requires : goal.unreachable-requires
unreachable-requires g c = is_placed c.args.file c.args.self.now (sym c.place_of.ensures.place ∙ c.in-None.is) c.requires.held

pub zero_image-requires-clause-known : goal.zero_image-requires-clause-known
zero_image-requires-clause-known g c = λ b told.
    let items : List DeviceSeen = c.self.inside.list.items in
    let x : DeviceSeen = c.index_mut-held.result.now in
    let place = rw (sym c.self.view_is) at (sym c.in-Some.ensures.place) in
    let known = rw (sym c.self.view_is) at c.requires.known in
    let content = ap (λ (d : DeviceSeen). d.content) c.index_mut-held.ensures.value in
    known (get_or items c.in-Some.at x) b (at_place c.args.file items c.in-Some.at x place) (sym content ∙ told)

pub returns : goal.returns
returns g c =
    let items : List DeviceSeen = c.self.inside.list.items in
    let x : DeviceSeen = c.index_mut-held.result.now in
    let y : DeviceSeen = c.zero_image.new.self in
    let place = rw (sym c.self.view_is) at (sym c.in-Some.ensures.place) in
    let fits : ℕ → Type 0 = ZeroFits c.args.image.now c.args.cluster in
    rw (sym c.self.view_is)
    (called_over c.args.file items c.in-Some.at x y fits None (ClearsCluster c.args.cluster) c.args.image.now c.zero_image.new.image (c.args.cluster * cluster_size_in c.args.image.now) (replicate (cluster_size_in c.args.image.now) 0) c.zero_image.result place
    (subst (λ (d : DeviceSeen). IsImageCall (fits d.capacity) None (ClearsCluster c.args.cluster) d y c.args.image.now c.zero_image.new.image (c.args.cluster * cluster_size_in c.args.image.now) (replicate (cluster_size_in c.args.image.now) 0) c.zero_image.result) c.index_mut-held.ensures.value c.zero_image.ensures))
