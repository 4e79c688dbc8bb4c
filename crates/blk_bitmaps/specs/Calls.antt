-- The calls that change the table of bitmaps, as plain data: the rows after any list of calls that were not refused.
use Rattle.std.specs.Prelude.{ℕ, ◌==◌, Bool, true, false, not, if◌then◌else◌, List, [], ◌∷◌, ◌++◌, filter, map, Option, Some, None}
use Rattle.blk_base.specs.Pieces.{Extent}
use Rattle.blk_base.specs.Written.{Written}
use Rattle.blk_bitmaps.specs.declared.row.Bitmap.{Bitmap}
use Rattle.blk_bitmaps.specs.declared.sources.SourceBitmap.{SourceBitmap}
use Rattle.blk_bitmaps.specs.Rows.{added, switched, emptied, filled, written, merged_row, used, use_ended, is_named, records, is_used_by}
use Rattle.blk_bitmaps.specs.Refusals.{source_of}

pub data Call : Type 0 where
  Add : ℕ → Written → ℕ → ℕ → Bool → Call
  Remove : ℕ → List ℕ → Call
  RemoveAll : ℕ → Call
  Enable : ℕ → List ℕ → Call
  Disable : ℕ → List ℕ → Call
  Clear : ℕ → List ℕ → Call
  Merge : ℕ → List ℕ → List SourceBitmap → Call
  NoteWrite : ℕ → Extent → Call
  NoteAll : ℕ → Call
  Freeze : ℕ → List ℕ → ℕ → Call
  Release : ℕ → Bool → Call

-- the first row that passes a test is changed
abbrev pub with_first : (Bitmap → Bool) → (Bitmap → Bitmap) → List Bitmap → List Bitmap
with_first test change [] = []
with_first test change (row ∷ rows) =
    if test row then change row ∷ rows else row ∷ with_first test change rows

-- it is gone
abbrev pub without_first : (Bitmap → Bool) → List Bitmap → List Bitmap
without_first test [] = []
without_first test (row ∷ rows) = if test row then rows else row ∷ without_first test rows

-- each row that passes a test is changed
abbrev pub where_so : (Bitmap → Bool) → (Bitmap → Bitmap) → List Bitmap → List Bitmap
where_so test change rows = map (λ row. if test row then change row else row) rows

abbrev pub with_source : List Bitmap → ℕ → List ℕ → Option Bitmap → List Bitmap
with_source rows node name None = rows
with_source rows node name (Some source) = with_first (is_named node name) (merged_row source) rows

abbrev pub with_sources : List Bitmap → ℕ → List ℕ → List SourceBitmap → List Bitmap
with_sources rows node name [] = rows
with_sources rows node name (source ∷ sources) =
    with_sources (with_source rows node name (source_of rows source)) node name sources

abbrev pub rows_after_call : List Bitmap → Call → List Bitmap
rows_after_call rows (Add node name size granularity on) =
    rows ++ added node name size granularity on ∷ []
rows_after_call rows (Remove node name) = without_first (is_named node name) rows
rows_after_call rows (RemoveAll node) = filter (λ row. not (row.node == node)) rows
rows_after_call rows (Enable node name) = with_first (is_named node name) (switched true) rows
rows_after_call rows (Disable node name) = with_first (is_named node name) (switched false) rows
rows_after_call rows (Clear node name) = with_first (is_named node name) emptied rows
rows_after_call rows (Merge node target sources) = with_sources rows node target sources
rows_after_call rows (NoteWrite node span) = where_so (records node) (written span) rows
rows_after_call rows (NoteAll node) = where_so (records node) filled rows
rows_after_call rows (Freeze node name job) = with_first (is_named node name) (used job) rows
rows_after_call rows (Release job drops) = where_so (is_used_by job) (use_ended drops) rows

-- the rows after the calls in turn
abbrev pub after_all : List Bitmap → List Call → List Bitmap
after_all rows [] = rows
after_all rows (call ∷ calls) = after_all (rows_after_call rows call) calls
