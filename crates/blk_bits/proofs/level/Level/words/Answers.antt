use Rattle.blk_bits.proofs.LevelLemmas.{words-kept, keeps-bits_in}
use Rattle.blk_bits.proofs.level.Level.words.Goals as goal

pub returns : goal.returns
returns c = rw (c.as_slice.ensures.value, ← c.self.view_is) (words-kept _ c.self.inside.words.items (keeps-bits_in c.self.inside.count c.self.inside.words.items c.self.invariant))
