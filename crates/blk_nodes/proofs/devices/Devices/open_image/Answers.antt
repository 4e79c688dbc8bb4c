use Rattle.std.proofs.Common.{List, sym, ◌∙◌, subst}
use Rattle.std.specs.Prelude.{◌≡◌, IfOk, IfErr, OnOk}
use Rattle.blk_nodes.specs.Nodes.{DeviceSeen}
use Rattle.blk_nodes.specs.Overlays.{IsOpenedOn, IsUnopenedOn}
use Rattle.blk_nodes.specs.Reading.{HasRisen}
use Rattle.blk_nodes.proofs.HeldDevices.{is_placed, HaveRisen-set, opened_over, quiet_over, unopened_over}
use Rattle.blk_nodes.proofs.devices.Devices.open_image.Goals as goal

pub unreachable-requires : goal.unreachable-requires
unreachable-requires g c = is_placed c.args.file c.args.self.now (sym c.place_of.ensures.place ∙ c.in-None.is) c.requires

pub returns-clause-opened : goal.returns-clause-opened
returns-clause-opened g c =
    let items : List DeviceSeen = c.self.inside.list.items in
    let x : DeviceSeen = c.index_mut-held.result.now in
    let place = rw (sym c.self.view_is) at (sym c.in-Some.ensures.place) in
    rw (sym c.self.view_is)
    (opened_over c.args.file items c.in-Some.at x c.open_image.result place
    (subst (λ (d : DeviceSeen). IfOk c.open_image.result (IsOpenedOn d)) c.index_mut-held.ensures.value c.open_image.ensures.opened))

pub returns-clause-stop : goal.returns-clause-stop
returns-clause-stop g c =
    let items : List DeviceSeen = c.self.inside.list.items in
    let x : DeviceSeen = c.index_mut-held.result.now in
    let y : DeviceSeen = c.open_image.new.self in
    let place = rw (sym c.self.view_is) at (sym c.in-Some.ensures.place) in
    rw (sym c.self.view_is)
    (unopened_over c.args.file items c.in-Some.at x y c.open_image.result place
    (subst (λ (d : DeviceSeen). HasRisen d y) c.index_mut-held.ensures.value c.open_image.ensures.kept)
    (subst (λ (d : DeviceSeen). IfErr c.open_image.result (IsUnopenedOn d y)) c.index_mut-held.ensures.value c.open_image.ensures.stop))

pub returns-clause-quiet : goal.returns-clause-quiet
returns-clause-quiet g c =
    let items : List DeviceSeen = c.self.inside.list.items in
    let x : DeviceSeen = c.index_mut-held.result.now in
    let y : DeviceSeen = c.open_image.new.self in
    rw (sym c.self.view_is)
    (quiet_over items c.in-Some.at x y c.open_image.result
    (subst (λ (d : DeviceSeen). OnOk c.open_image.result (y ≡ d)) c.index_mut-held.ensures.value c.open_image.ensures.quiet))

pub returns-clause-risen : goal.returns-clause-risen
returns-clause-risen g c =
    let items : List DeviceSeen = c.self.inside.list.items in
    let x : DeviceSeen = c.index_mut-held.result.now in
    let y : DeviceSeen = c.open_image.new.self in
    let within = rw (sym c.self.view_is) at c.in-Some.ensures.within in
    rw (sym c.self.view_is)
    (HaveRisen-set items c.in-Some.at x y within (subst (λ (d : DeviceSeen). HasRisen d y) c.index_mut-held.ensures.value c.open_image.ensures.kept))
