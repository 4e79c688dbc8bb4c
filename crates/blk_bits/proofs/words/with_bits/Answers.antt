use Rattle.std.proofs.Common.{arith}
use Rattle.blk_bits.specs.Granules.{in_span}
use Rattle.blk_bits.proofs.WordLemmas.{masked, unmasked}
use Rattle.blk_bits.proofs.words.with_bits.Goals as goal

pub returns-then-value : goal.returns-then-value
returns-then-value c = λ k below. rw c.if-value.true (masked c.args.word c.span_mask-mask.result k (in_span c.args.from c.args.to k) (c.span_mask-mask.ensures k below))

pub returns-else-value : goal.returns-else-value
returns-else-value c = λ k below. rw c.if-value.false (unmasked c.args.word c.span_mask-mask.result k (in_span c.args.from c.args.to k) (omega arith) below (c.span_mask-mask.ensures k below))
