-- Which refusal a call of the table of bitmaps answers. Where several hold, it is the first of the list of refusals.
use Rattle.std.specs.Prelude.{ℕ, ◌==◌, nat_le, Bool, true, not, if◌then◌else◌, List, [], ◌∷◌, length, Option, Some, None, is_some, is_none}
use Rattle.std.specs.List.{list_any}
use Rattle.blk_bitmaps.specs.declared.row.Bitmap.{Bitmap}
use Rattle.blk_bitmaps.specs.declared.sources.SourceBitmap.{SourceBitmap}
use Rattle.blk_bitmaps.specs.declared.stop.BitmapStop.{BitmapStop}
use Rattle.blk_bitmaps.specs.declared.stop.BitmapStop.TheVariants.{NameTaken, NotFound, Busy, Granularity, SizeDiffers, TooMany}
use Rattle.blk_bitmaps.specs.Rows.{is_named, is_granule_size}

-- the first row that passes a test
abbrev pub first_row : (Bitmap → Bool) → List Bitmap → Option Bitmap
first_row test [] = None
first_row test (row ∷ rows) = if test row then Some row else first_row test rows

abbrev pub find : List Bitmap → ℕ → List ℕ → Option Bitmap
find rows node name = first_row (is_named node name) rows

abbrev pub add_refusal : List Bitmap → ℕ → List ℕ → ℕ → Option BitmapStop
add_refusal rows node name granularity =
    if is_some (find rows node name) then Some NameTaken
    else if not (is_granule_size granularity) then Some Granularity
    else if nat_le 64 (length rows) then Some TooMany
    else None

abbrev pub busy_refusal : Option ℕ → Option BitmapStop
busy_refusal None = None
busy_refusal (Some job) = Some (Busy job)

-- a call that changes the row it names
abbrev pub use_refusal : Option Bitmap → Option BitmapStop
use_refusal None = Some NotFound
use_refusal (Some row) = busy_refusal row.busy

abbrev pub source_of : List Bitmap → SourceBitmap → Option Bitmap
source_of rows source = find rows source.node source.name.bytes

-- a source is not there
abbrev pub is_absent : List Bitmap → List SourceBitmap → Bool
is_absent rows sources = list_any (λ source. is_none (source_of rows source)) sources

abbrev pub job_of : Option Bitmap → Option ℕ
job_of None = None
job_of (Some row) = row.busy

-- the job of the first of the sources that is busy
abbrev pub first_job : List Bitmap → List SourceBitmap → Option ℕ
first_job rows [] = None
first_job rows (source ∷ sources) =
    elim (job_of (source_of rows source)) as (λ _. Option ℕ) [
      | Some job ↦ Some job
      | None ↦ first_job rows sources
    ]

abbrev pub has_size : ℕ → Option Bitmap → Bool
has_size size None = true
has_size size (Some row) = row.size == size

-- a source is of a disk of another size
abbrev pub differs : List Bitmap → ℕ → List SourceBitmap → Bool
differs rows size sources = list_any (λ source. not (has_size size (source_of rows source))) sources

-- a merge of these sources into the row
abbrev pub sources_refusal : List Bitmap → Bitmap → List SourceBitmap → Option BitmapStop
sources_refusal rows row sources =
    if is_absent rows sources then Some NotFound
    else elim row.busy as (λ _. Option BitmapStop) [
      | Some job ↦ Some (Busy job)
      | None ↦ elim (first_job rows sources) as (λ _. Option BitmapStop) [
        | Some job ↦ Some (Busy job)
        | None ↦ if differs rows row.size sources then Some SizeDiffers else None
      ]
    ]

abbrev pub merge_refusal : List Bitmap → Option Bitmap → List SourceBitmap → Option BitmapStop
merge_refusal rows None sources = Some NotFound
merge_refusal rows (Some row) sources = sources_refusal rows row sources
