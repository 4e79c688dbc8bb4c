use Rattle.std.proofs.Common.{◌∙◌}
use Rattle.blk_bitmaps.proofs.SetLemmas.{united}
use Rattle.blk_bitmaps.proofs.row.unite.Goals as goal

pub returns : goal.returns
returns c = c.merge_from.ensures ∙ united c.args.set.now c.args.other.now
