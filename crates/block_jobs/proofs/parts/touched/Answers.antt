use Rattle.std.proofs.Common.{arith}
use Rattle.std.proofs.lemmas.Bool.Decides.{nat_tests}
use Rattle.blk_bitmaps.proofs.SetLemmas.{touched_is}
use Rattle.block_jobs.proofs.parts.touched.Goals as goal

pub returns-clause-span : goal.returns-clause-span
returns-clause-span c = λ k below. rw (← c.span.view_is) (touched_is c.args.bytes c.span.inside.start c.span.inside.len k c.args.count c.min-from.result c.min-to.result
    c.requires (grind (arith, nat_tests)) below c.min-to.ensures c.min-from.ensures)
