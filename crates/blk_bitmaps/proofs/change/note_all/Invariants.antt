use Rattle.std.proofs.Common.{◌≡◌, ◌++◌, take, drop}
use Rattle.blk_bitmaps.specs.Rows.{records, filled}
use Rattle.blk_bitmaps.specs.Calls.{where_so}
use Rattle.blk_bitmaps.proofs.change.note_all.Given as goal

abbrev pub invariant-loop-place : goal.invariant-loop-place
invariant-loop-place l = l.rows ≡ where_so (records l.node) (filled) (take l.place l.initial.rows) ++ drop l.place l.initial.rows
