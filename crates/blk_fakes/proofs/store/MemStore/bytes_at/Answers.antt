use Rattle.std.proofs.Common.{◌∙◌, ap}
use Rattle.blk_fakes.specs.Disk.{DeviceState, device_bytes}
use Rattle.blk_fakes.specs.Shelf.{StoreState, told_as}
use Rattle.blk_fakes.proofs.Shelves.{file_read}
use Rattle.blk_fakes.proofs.store.MemStore.bytes_at.Goals as goal

pub returns : goal.returns
returns c =
    let files = ap (λ (s : StoreState). s.files) c.self.view_is in
    let read = rw files at c.index.ensures in (
      told_as c.args.name.now c.index.result.now.device,
      file_read c.args.name.now c.args.self.now.files c.args.at c.index.result.now c.requires read,
      c.bytes.ensures ∙ ap (λ (d : DeviceState). device_bytes d.disk) c.device.ensures,
    )
