use Rattle.std.proofs.Common.{◌∙◌, sym, ap, Some}
use Rattle.std.specs.Prelude.{bytes_eq}
use Rattle.blk_fakes.specs.Disk.{DeviceState}
use Rattle.blk_fakes.specs.Shelf.{FileState, StoreState, told_as}
use Rattle.blk_fakes.proofs.Shelves.{first, held_at, file_read, device_read}
use Rattle.blk_fakes.proofs.store.MemStore.lend.Goals as goal

pub note_opening-requires : goal.note_opening-requires
note_opening-requires c =
    let name = c.args.name.now in
    let files = c.args.self.now.files in
    held_at name files c.args.at c.index.result.now (first (λ (f : FileState). bytes_eq name f.name) files c.args.at c.index.result.now c.requires)

pub returns-clause-device : goal.returns-clause-device
returns-clause-device c =
    let files = ap (λ (s : StoreState). s.files) c.self.view_is in
    device_read c.args.name.now c.args.self.now.files c.args.at c.index.result.now c.requires (rw files at c.index.ensures)
    ∙ ap (λ (d : DeviceState). Some d) (sym c.device.ensures ∙ sym c.in_ok-dev.ensures)

pub returns-clause-told : goal.returns-clause-told
returns-clause-told c =
    let files = ap (λ (s : StoreState). s.files) c.self.view_is in
    file_read c.args.name.now c.args.self.now.files c.args.at c.index.result.now c.requires (rw files at c.index.ensures)
    ∙ ap (λ (d : DeviceState). Some (told_as c.args.name.now d)) (sym c.device.ensures ∙ sym c.in_ok-dev.ensures)
