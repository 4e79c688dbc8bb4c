use Rattle.std.proofs.Common.{List, sym, ◌∙◌, ap, subst, get_or}
use Rattle.blk_base.specs.Content.{AreZeroPast}
use Rattle.blk_base.specs.declared.device.DeviceCall.{DeviceCall}
use Rattle.blk_base.specs.declared.device.DeviceCall.TheVariants as calls
use Rattle.q2_image.specs.Writing.{own_place}
use Rattle.blk_nodes.specs.Nodes.{DeviceSeen}
use Rattle.blk_nodes.specs.Reading.{HasRisen, IsReadOf}
use Rattle.blk_nodes.proofs.HeldDevices.{is_placed, at_place, HaveRisen-set, past_over, read_over, told_at}
use Rattle.blk_nodes.proofs.devices.Devices.read_image.Goals as goal

pub unreachable-requires : goal.unreachable-requires
unreachable-requires g c = is_placed c.args.file c.args.self.now (sym c.place_of.ensures.place ∙ c.in-None.is) c.requires.held

pub returns-clause-read : goal.returns-clause-read
returns-clause-read g c =
    let items : List DeviceSeen = c.self.inside.list.items in
    let x : DeviceSeen = c.index_mut-held.result.now in
    let place = rw (sym c.self.view_is) at (sym c.in-Some.ensures.place) in
    let content = ap (λ (d : DeviceSeen). d.content) c.index_mut-held.ensures.value in
    let known = rw (sym c.self.view_is) at c.requires.known in
    rw (sym c.self.view_is)
    (λ all good.
    let told = told_at c.args.file items c.in-Some.at x place all in
    c.read_image.ensures.read _ (content ∙ told) (known (get_or items c.in-Some.at x) _ (at_place c.args.file items c.in-Some.at x place) told) good)

pub returns-clause-past : goal.returns-clause-past
returns-clause-past g c =
    let items : List DeviceSeen = c.self.inside.list.items in
    let x : DeviceSeen = c.index_mut-held.result.now in
    let place = rw (sym c.self.view_is) at (sym c.in-Some.ensures.place) in
    rw (sym c.self.view_is)
    (λ good.
    past_over c.args.file items c.in-Some.at x (own_place c.args.image.now c.args.span) c.read_image.new.buffer place
    (subst (λ (d : DeviceSeen). AreZeroPast d.size (own_place c.args.image.now c.args.span) c.read_image.new.buffer) c.index_mut-held.ensures.value (c.read_image.ensures.past good)))

pub returns-clause-outcome : goal.returns-clause-outcome
returns-clause-outcome g c =
    let items : List DeviceSeen = c.self.inside.list.items in
    let x : DeviceSeen = c.index_mut-held.result.now in
    let y : DeviceSeen = c.read_image.new.self in
    let place = rw (sym c.self.view_is) at (sym c.in-Some.ensures.place) in
    let call : DeviceCall = calls.Read (own_place c.args.image.now c.args.span) c.args.span.len in
    rw (sym c.self.view_is)
    (read_over c.args.file call items c.in-Some.at x y c.read_image.result place
    (subst (λ (d : DeviceSeen). HasRisen d y) c.index_mut-held.ensures.value c.read_image.ensures.kept)
    (subst (λ (d : DeviceSeen). IsReadOf call d y c.read_image.result) c.index_mut-held.ensures.value c.read_image.ensures.outcome))

pub returns-clause-devices : goal.returns-clause-devices
returns-clause-devices g c =
    let items : List DeviceSeen = c.self.inside.list.items in
    let x : DeviceSeen = c.index_mut-held.result.now in
    let y : DeviceSeen = c.read_image.new.self in
    let within = rw (sym c.self.view_is) at c.in-Some.ensures.within in
    rw (sym c.self.view_is)
    (HaveRisen-set items c.in-Some.at x y within (subst (λ (d : DeviceSeen). HasRisen d y) c.index_mut-held.ensures.value c.read_image.ensures.kept))
