-- Bitmaps in the use of jobs, in the table of names and in that of bitmaps.
use Rattle.std.specs.Prelude.{◌≡◌, ℕ, Bool, true, false, List, Contains, map, Option, Some, None}
use Rattle.blk_bitmaps.specs.declared.row.Bitmap.{Bitmap}
use Rattle.blk_bitmaps.specs.Rows.{HaveDistinctNames}
use Rattle.qmp_rules.specs.declared.rows.BitmapRow.{BitmapRow}
use Rattle.qmp_rules.specs.declared.rows.JobRecord.{JobRecord}
use Rattle.qmp_rules.specs.declared.rows.UsedBitmap.{UsedBitmap}
use Rattle.qmp_rules.specs.Changes.{is_used_by}
use Rattle.qmp_rules.specs.Table.{RunTable, is_bitmap, job_at}
use Rattle.flat_machine.specs.Bitmaps.{bitmap_of, dirty_in}
use Rattle.flat_machine.specs.State.{Dirty}

-- the rows are of these bitmaps, of which no two have one node and name
pub record AreListed (rows : List BitmapRow) (bitmaps : List Bitmap) : Type 0 where
  pub listed : rows ≡ map bitmap_of bitmaps
  pub single : HaveDistinctNames bitmaps

-- the rows are of these bitmaps, and this is dirty in them
pub record AreWith (rows : List BitmapRow) (dirty : List Dirty) (bitmaps : List Bitmap) : Type 0
  where
    pub named : AreListed rows bitmaps
    pub holds : map dirty_in bitmaps ≡ dirty

-- a job over a source copies by the bitmap
abbrev pub is_copied_by : ℕ → Option UsedBitmap → BitmapRow → Bool
is_copied_by source None row = false
is_copied_by source (Some used) row = is_bitmap source used.name row

abbrev pub is_use_of : Option JobRecord → BitmapRow → Bool
is_use_of None row = false
is_use_of (Some job) row = is_copied_by job.source job.bitmap row

-- a bitmap that a job over the source is to copy by is in nobody's use
abbrev pub IsUnused : RunTable → ℕ → Option UsedBitmap → Type 0
IsUnused t source by = (row : BitmapRow) → Contains t.bitmaps row → is_copied_by source by row ≡ true
    → row.busy ≡ None

-- a bitmap is busy with a job exactly where that job is there and copies by it
abbrev pub AreInUse : RunTable → Type 0
AreInUse t = (row : BitmapRow) → Contains t.bitmaps row → (number : ℕ)
    → is_used_by number row.busy ≡ is_use_of (job_at t number) row
