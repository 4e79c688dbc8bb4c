use Rattle.blk_bits.proofs.WordLemmas.{mask_bit}
use Rattle.blk_bits.proofs.words.span_mask.Goals as goal

pub returns : goal.returns
returns c = λ k below. mask_bit c.args.from c.args.to k c.requires.order c.requires.within below
