use Rattle.std.proofs.Common.{arith}
use Rattle.std.specs.Prelude.{if◌then◌else◌}
use Rattle.blk_bitmaps.specs.Rows.{is_used_by, use_ended}
use Rattle.blk_bitmaps.proofs.RowLemmas.{noted}
use Rattle.blk_bitmaps.proofs.change.release.Goals as goal

pub loop-place-preserved : goal.loop-place-preserved
loop-place-preserved c = noted (λ row. if is_used_by c.args.job row then use_ended c.args.drops row else row)
    c.args.rows.now c.loop-place.rows c.loop-place.place c.index-rows-place.result _ (omega arith) c.loop-place.invariant c.release.ensures
