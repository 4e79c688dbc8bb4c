use Rattle.std.proofs.Common.{arith}
use Rattle.blk_bitmaps.specs.Rows.{span_touches}
use Rattle.blk_bitmaps.proofs.SetLemmas.{marked}
use Rattle.block_jobs.proofs.parts.mark.Goals as goal

pub returns : goal.returns
returns c = marked c.args.set.now _ c.touched-parts.result.from c.touched-parts.result.to (span_touches c.args.bytes c.args.span) c.set_span.ensures
    (λ k below. c.touched-parts.ensures.span k (omega arith))
