use Rattle.std.proofs.Common.{◌≡◌, ◌++◌, take, drop}
use Rattle.blk_bitmaps.specs.Rows.{records, written}
use Rattle.blk_bitmaps.specs.Calls.{where_so}
use Rattle.blk_bitmaps.proofs.change.note_write.Given as goal

abbrev pub invariant-loop-place : goal.invariant-loop-place
invariant-loop-place l = l.rows ≡ where_so (records l.node) (written l.span) (take l.place l.initial.rows) ++ drop l.place l.initial.rows
