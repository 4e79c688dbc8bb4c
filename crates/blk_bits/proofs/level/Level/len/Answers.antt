use Rattle.std.proofs.Common.{ap, sym, length, ◌∙◌}
use Rattle.blk_bits.proofs.LevelLemmas.{length-bits_in}
use Rattle.blk_bits.proofs.level.Level.len.Goals as goal

pub returns : goal.returns
returns c = sym (length-bits_in c.self.inside.count c.self.inside.words.items) ∙ ap length c.self.view_is
