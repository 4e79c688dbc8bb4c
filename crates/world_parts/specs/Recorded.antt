-- What commands make of the table of bitmaps.
use Rattle.std.specs.Prelude.{◌≡◌, ℕ, true, false, List, [], ◌∷◌, ◌++◌, Contains, Option, Some, None}
use Rattle.blk_bitmaps.specs.declared.row.Bitmap.{Bitmap}
use Rattle.blk_bitmaps.specs.Calls.{with_first, without_first, with_source}
use Rattle.blk_bitmaps.specs.Refusals.{find}
use Rattle.blk_bitmaps.specs.Rows.{is_named, switched, emptied}
use Rattle.qmp_codec.specs.Commands.{Cmd, SeenSources}
use Rattle.qmp_codec.specs.declared.bitmaps.BitmapAdd.{BitmapAdd}
use Rattle.qmp_codec.specs.declared.command.Command.TheVariants as command
use Rattle.qmp_rules.specs.Asks.{id_or}
use Rattle.qmp_asks.specs.BitmapAsks.{source_node, source_name}
use Rattle.qmp_rules.specs.Edits.{bitmap_row}
use Rattle.qmp_rules.specs.Table.{RunTable}
use Rattle.qmp_rules.specs.Queries.{bytes_of_node}
use Rattle.flat_machine.specs.Bitmaps.{bitmap_of, dirty_in, IsFreeBitmap, IsSoundBitmap}
use Rattle.flat_machine.specs.Marking.{clean}

-- a job uses one exactly where a set of it stands aside
abbrev pub AreSound : List Bitmap → Type 0
AreSound rows = (row : Bitmap) → Contains rows row → IsSoundBitmap row

-- no job uses the one of that node and name
abbrev pub IsIdleAt : List Bitmap → ℕ → List ℕ → Type 0
IsIdleAt rows node name =
    (row : Bitmap) → find rows node name ≡ Some row → row.busy ≡ None

-- ---- commands

-- the bitmap that a command adds, with nothing dirty
pub record IsNewBitmap (t : RunTable) (c : BitmapAdd (List ℕ)) (row : Bitmap) : Type 0 where
  pub named : bitmap_of row ≡ bitmap_row (id_or 0 t (Some c.node)) c
  pub sized : row.size ≡ bytes_of_node t row.node
  pub blank : dirty_in row ≡ clean (bitmap_of row) (bytes_of_node t row.node)
  pub free : IsFreeBitmap row

abbrev pub IsNewFor : RunTable → Cmd → Option Bitmap → Type 0
IsNewFor t (command.BitmapAdd c) (Some row) = IsNewBitmap t c row
IsNewFor t (command.BitmapAdd c) None = Unit {0} → ⊥
IsNewFor t c new = Unit {0}

-- one source after another
abbrev pub bitmaps_merged : RunTable → List ℕ → List ℕ → SeenSources → List Bitmap → List Bitmap
bitmaps_merged t node target [] rows = rows
bitmaps_merged t node target (s ∷ sources) rows =
    bitmaps_merged t node target sources
    (with_source rows (id_or 0 t (Some node)) target
    (find rows (id_or 0 t (Some (source_node node s))) (source_name s)))

abbrev pub with_new : Option Bitmap → List Bitmap → List Bitmap
with_new None rows = rows
with_new (Some row) rows = rows ++ row ∷ []

-- what an accepted command makes of them, the new one where it adds one
abbrev pub bitmaps_after : RunTable → Cmd → Option Bitmap → List Bitmap → List Bitmap
bitmaps_after t (command.BitmapAdd c) new rows = with_new new rows
bitmaps_after t (command.BitmapRemove c) new rows =
    without_first (is_named (id_or 0 t (Some c.node)) c.name) rows
bitmaps_after t (command.BitmapClear c) new rows =
    with_first (is_named (id_or 0 t (Some c.node)) c.name) emptied rows
bitmaps_after t (command.BitmapEnable c) new rows =
    with_first (is_named (id_or 0 t (Some c.node)) c.name) (switched true) rows
bitmaps_after t (command.BitmapDisable c) new rows =
    with_first (is_named (id_or 0 t (Some c.node)) c.name) (switched false) rows
bitmaps_after t (command.BitmapMerge c) new rows = bitmaps_merged t c.node c.target c.bitmaps rows
bitmaps_after t c new rows = rows

-- so it left them
pub record AreAfter (t : RunTable) (c : Cmd) (old now : List Bitmap) : Type 0 where
  pub new : Option Bitmap
  pub is_new : IsNewFor t c new
  pub are : now ≡ bitmaps_after t c new old
