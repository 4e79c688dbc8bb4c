use Rattle.std.proofs.Common.{◌∙◌}
use Rattle.blk_bitmaps.proofs.SetLemmas.{all_in}
use Rattle.block_jobs.proofs.parts.fill.Goals as goal

pub returns : goal.returns
returns c = let done = rw c.granules.ensures at c.set_span.ensures in done ∙ all_in c.args.set.now
