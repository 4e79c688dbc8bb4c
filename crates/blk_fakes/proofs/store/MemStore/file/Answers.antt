use Rattle.std.proofs.Common.{rules, ◌≡◌, ◌∙◌, inr, sym, ap, Some}
use Rattle.blk_fakes.specs.Disk.{DeviceState}
use Rattle.blk_fakes.specs.Shelf.{StoreState, shelf_place}
use Rattle.blk_fakes.proofs.Shelves.{device_read, missing, device_missing}
use Rattle.blk_fakes.proofs.store.MemStore.file.Goals as goal

pub returns-in-Some-clause-some : goal.returns-in-Some-clause-some
returns-in-Some-clause-some c =
    let files = ap (λ (s : StoreState). s.files) c.self.view_is in
    let place : shelf_place c.args.name.now c.args.self.now.files ≡ Some c.in-Some.at = sym c.find.ensures ∙ c.in-Some.is in
    let read = rw files at c.index.ensures in
    (search rules, device_read c.args.name.now c.args.self.now.files c.in-Some.at c.index.result.now place read ∙ ap (λ (d : DeviceState). Some d) (sym c.device.ensures))

pub returns-in-None-clause-none : goal.returns-in-None-clause-none
returns-in-None-clause-none c =
    inr (device_missing c.args.name.now c.args.self.now.files (missing c.args.name.now c.args.self.now.files (sym c.find.ensures ∙ c.in-None.is)))
