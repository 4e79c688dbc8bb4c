use Rattle.std.proofs.Common.{arith}
use Rattle.std.specs.Prelude.{if◌then◌else◌}
use Rattle.blk_bitmaps.specs.Rows.{records, written}
use Rattle.blk_bitmaps.proofs.RowLemmas.{noted}
use Rattle.blk_bitmaps.proofs.change.note_write.Goals as goal

pub loop-place-preserved : goal.loop-place-preserved
loop-place-preserved c = noted (λ row. if records c.args.node row then written c.args.span row else row)
    c.args.rows.now c.loop-place.rows c.loop-place.place c.index-rows-place.result _ (omega arith) c.loop-place.invariant c.note_write.ensures
