use Rattle.std.proofs.Common.{◌≡◌, ◌≤◌}
use Rattle.blk_bitmaps.specs.Rows.{dirty_below}
use Rattle.blk_bitmaps.proofs.row.Bitmap.dirty_bytes.Given as goal

abbrev pub invariant-loop-granule : goal.invariant-loop-granule
invariant-loop-granule l = record { counted : l.count ≡ dirty_below l.self l.granule; few : l.count ≤ l.granule }
