use Rattle.std.proofs.Common.{List, length, sym, ◌∙◌, ap, subst}
use Rattle.blk_base.specs.Content.{AreZeroPast}
use Rattle.blk_base.specs.declared.device.DeviceCall.{DeviceCall}
use Rattle.blk_base.specs.declared.device.DeviceCall.TheVariants as calls
use Rattle.blk_nodes.specs.Nodes.{DeviceSeen}
use Rattle.blk_nodes.specs.Reading.{HasRisen, IsReadOf}
use Rattle.blk_nodes.proofs.HeldDevices.{is_placed, HaveRisen-set, past_over, read_over, told_at}
use Rattle.blk_nodes.proofs.devices.Devices.read_file.Goals as goal

pub unreachable-requires : goal.unreachable-requires
unreachable-requires g c = is_placed c.args.file c.args.self.now (sym c.place_of.ensures.place ∙ c.in-None.is) c.requires

pub returns-clause-read : goal.returns-clause-read
returns-clause-read g c =
    let items : List DeviceSeen = c.self.inside.list.items in
    let x : DeviceSeen = c.index_mut-held.result.now in
    let place = rw (sym c.self.view_is) at (sym c.in-Some.ensures.place) in
    let content = ap (λ (d : DeviceSeen). d.content) c.index_mut-held.ensures.value in
    rw (sym c.self.view_is)
    (λ all good. c.read.ensures.read _ (content ∙ told_at c.args.file items c.in-Some.at x place all) good)

pub returns-clause-past : goal.returns-clause-past
returns-clause-past g c =
    let items : List DeviceSeen = c.self.inside.list.items in
    let x : DeviceSeen = c.index_mut-held.result.now in
    let place = rw (sym c.self.view_is) at (sym c.in-Some.ensures.place) in
    rw (sym c.self.view_is)
    (λ good.
    past_over c.args.file items c.in-Some.at x c.args.start c.read.new.buffer place
    (subst (λ (d : DeviceSeen). AreZeroPast d.size c.args.start c.read.new.buffer) c.index_mut-held.ensures.value (c.read.ensures.past good)))

pub returns-clause-outcome : goal.returns-clause-outcome
returns-clause-outcome g c =
    let items : List DeviceSeen = c.self.inside.list.items in
    let x : DeviceSeen = c.index_mut-held.result.now in
    let y : DeviceSeen = c.read.new.self in
    let place = rw (sym c.self.view_is) at (sym c.in-Some.ensures.place) in
    let call : DeviceCall = calls.Read c.args.start (length c.args.buffer.now) in
    rw (sym c.self.view_is)
    (read_over c.args.file call items c.in-Some.at x y c.read.result place
    (subst (λ (d : DeviceSeen). HasRisen d y) c.index_mut-held.ensures.value c.read.ensures.kept)
    (subst (λ (d : DeviceSeen). IsReadOf call d y c.read.result) c.index_mut-held.ensures.value c.read.ensures.outcome))

pub returns-clause-devices : goal.returns-clause-devices
returns-clause-devices g c =
    let items : List DeviceSeen = c.self.inside.list.items in
    let x : DeviceSeen = c.index_mut-held.result.now in
    let y : DeviceSeen = c.read.new.self in
    let within = rw (sym c.self.view_is) at c.in-Some.ensures.within in
    rw (sym c.self.view_is)
    (HaveRisen-set items c.in-Some.at x y within (subst (λ (d : DeviceSeen). HasRisen d y) c.index_mut-held.ensures.value c.read.ensures.kept))
