use Rattle.std.proofs.Common.{arith}
use Rattle.blk_bitmaps.specs.Rows.{span_touches}
use Rattle.blk_bitmaps.proofs.SetLemmas.{marked}
use Rattle.blk_bitmaps.proofs.row.mark.Goals as goal

pub returns : goal.returns
returns c = marked c.args.set.now _ c.touched-granules.result.from c.touched-granules.result.to (span_touches c.args.granularity c.args.span) c.set_span.ensures
    (λ k below. c.touched-granules.ensures.span k (omega arith))
