use Rattle.std.proofs.Common.{ℕ, List, Option, get_or, sym, ◌∙◌, ap, subst}
use Rattle.std.specs.Option.{option_copied}
use Rattle.blk_nodes.specs.Nodes.{DeviceSeen}
use Rattle.blk_nodes.specs.Renaming.{IsRenameBy}
use Rattle.blk_nodes.proofs.HeldDevices.{is_placed, at_place}
use Rattle.blk_nodes.proofs.Renamed.{renamed_over}
use Rattle.blk_nodes.proofs.devices.Devices.rename_image.Goals as goal

pub unreachable-requires : goal.unreachable-requires
unreachable-requires g c = is_placed c.args.file c.args.self.now (sym c.place_of.ensures.place ∙ c.in-None.is) c.requires.held

pub rename_image-requires-clause-known : goal.rename_image-requires-clause-known
rename_image-requires-clause-known g c = λ b told.
    let items : List DeviceSeen = c.self.inside.list.items in
    let x : DeviceSeen = c.index_mut-held.result.now in
    let place = rw (sym c.self.view_is) at (sym c.in-Some.ensures.place) in
    let known = rw (sym c.self.view_is) at c.requires.known in
    let content = ap (λ (d : DeviceSeen). d.content) c.index_mut-held.ensures.value in
    known (get_or items c.in-Some.at x) b (at_place c.args.file items c.in-Some.at x place) (sym content ∙ told)

pub returns : goal.returns
returns g c =
    let items : List DeviceSeen = c.self.inside.list.items in
    let x : DeviceSeen = c.index_mut-held.result.now in
    let y : DeviceSeen = c.rename_image.new.self in
    let place = rw (sym c.self.view_is) at (sym c.in-Some.ensures.place) in
    let name : Option (List ℕ) = option_copied c.args.name in
    let format : Option (List ℕ) = option_copied c.args.format in
    rw (sym c.self.view_is)
    (renamed_over c.args.file items c.in-Some.at x y c.args.image.now c.rename_image.new.image name format c.rename_image.result place
    (subst (λ (d : DeviceSeen). IsRenameBy d y c.args.image.now c.rename_image.new.image name format c.rename_image.result) c.index_mut-held.ensures.value c.rename_image.ensures))
