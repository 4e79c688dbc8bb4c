use Rattle.std.proofs.Common.{◌≡◌, ◌++◌, take, drop}
use Rattle.blk_bitmaps.specs.Rows.{is_used_by, use_ended}
use Rattle.blk_bitmaps.specs.Calls.{where_so}
use Rattle.blk_bitmaps.proofs.change.release.Given as goal

abbrev pub invariant-loop-place : goal.invariant-loop-place
invariant-loop-place l = l.rows ≡ where_so (is_used_by l.job) (use_ended l.drops) (take l.place l.initial.rows) ++ drop l.place l.initial.rows
