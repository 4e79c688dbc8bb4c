use Rattle.std.proofs.Common.{ap}
use Rattle.blk_fakes.specs.Shelf.{FileState}
use Rattle.blk_fakes.proofs.Shelves.{held_set}
use Rattle.blk_fakes.proofs.store.MemStore.set_device.Goals as goal

pub invariant_of-self : goal.invariant_of-self
invariant_of-self c = λ name out. held_set name c.self.inside.files.items c.args.at c.index_mut-file.result.now c.set_device.new.self
    c.index_mut-file.ensures.value (ap (λ (f : FileState). f.name) c.set_device.ensures) (c.self.invariant name out)
