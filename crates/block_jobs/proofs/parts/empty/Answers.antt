use Rattle.std.proofs.Common.{◌∙◌}
use Rattle.blk_bitmaps.proofs.SetLemmas.{none_in}
use Rattle.block_jobs.proofs.parts.empty.Goals as goal

pub returns : goal.returns
returns c = let done = rw c.granules.ensures at c.clear_span.ensures in done ∙ none_in c.args.set.now
