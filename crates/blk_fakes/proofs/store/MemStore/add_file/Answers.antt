use Rattle.std.specs.Prelude.{is_ok}
use Rattle.blk_fakes.proofs.Shelves.{held_push}
use Rattle.blk_fakes.proofs.store.MemStore.add_file.Goals as goal

pub invariant_of-self : goal.invariant_of-self
invariant_of-self c = λ name out. rw c.push.ensures.items (held_push name c.self.inside.files.items c.new.result (is_ok c.push.result) (c.self.invariant name out))
