-- The table of bitmaps, of which the table of names has the rows and the flat machine the dirty granules.
use Rattle.std.specs.Prelude.{◌≡◌, ℕ, Bool, List, [], ◌∷◌, length, map, Contains, Some, None, is_some}
use Rattle.blk_bitmaps.specs.declared.row.Bitmap.{Bitmap}
use Rattle.blk_base.specs.Pieces.{Extent}
use Rattle.blk_bitmaps.specs.Rows.{HaveDistinctNames, IsCountable, records, written}
use Rattle.blk_bitmaps.specs.Calls.{where_so}
use Rattle.qmp_rules.specs.declared.change.Change.{Change}
use Rattle.qmp_rules.specs.declared.rows.BitmapRow.{BitmapRow}
use Rattle.qmp_rules.specs.Table.{RunTable}
use Rattle.qmp_rules.specs.Changes.{all_changed}
use Rattle.flat_machine.specs.Recording.{dirty_after}
use Rattle.flat_machine.specs.State.{Dirty}

-- a bitmap as the table of names has it
abbrev pub bitmap_of : Bitmap → BitmapRow
bitmap_of row = record {
  node = row.node;
  name = row.name.bytes;
  granularity = row.granularity;
  enabled = row.enabled;
  busy = row.busy;
}

-- and what of it is dirty
abbrev pub dirty_in : Bitmap → Dirty
dirty_in row = record {
  node = row.node;
  name = row.name.bytes;
  granularity = row.granularity;
  set = row.dirty;
  aside = row.frozen;
}

-- a write is noted in each node of a path
abbrev pub noted_rows : Extent → List Bitmap → List ℕ → List Bitmap
noted_rows span rows [] = rows
noted_rows span rows (node ∷ nodes) =
    noted_rows span (where_so (records node) (written span) rows) nodes

-- no job uses it
pub record IsFreeBitmap (row : Bitmap) : Type 0 where
  pub free : row.busy ≡ None
  pub whole : row.frozen ≡ None
  pub countable : IsCountable row

-- A job uses it exactly where a set stands aside, which has as many granules.
pub record IsSoundBitmap (row : Bitmap) : Type 0 where
  pub aside : is_some row.busy ≡ is_some row.frozen
  pub alike : (set : List Bool) → row.frozen ≡ Some set → length set ≡ length row.dirty
  pub countable : IsCountable row

-- the rows are of these bitmaps, of which no two have one node and name
pub record AreBitmapsOf (rows : List BitmapRow) (bitmaps : List Bitmap) : Type 0 where
  pub listed : rows ≡ map bitmap_of bitmaps
  pub single : HaveDistinctNames bitmaps
  pub each : (row : Bitmap) → Contains bitmaps row → IsSoundBitmap row

-- they are what the changes make of rows and of dirty granules
pub record FollowChanges (t : RunTable) (old now : List Bitmap)
    (changes : List Change) : Type 0 where
  pub listed : AreBitmapsOf (all_changed t changes).bitmaps now
  pub dirty : map dirty_in now ≡ dirty_after t (map dirty_in old) changes
