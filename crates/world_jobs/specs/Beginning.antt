-- A backup or a mirror that begins behind the reply to its command.
use Rattle.std.specs.Prelude.{◌≡◌, ℕ, Bool, List, Option, Some, None, map, option_map, IfSome}
use Rattle.blk_bitmaps.specs.Calls.{rows_after_call, Freeze, NoteAll}
use Rattle.blk_bitmaps.specs.Refusals.{find, use_refusal}
use Rattle.blk_bitmaps.specs.Rows.{IsSpareOf}
use Rattle.blk_bitmaps.specs.declared.row.Bitmap.{Bitmap}
use Rattle.block_jobs.specs.Work.{JobWork, all_left, begun, granules_left}
use Rattle.blk_history.specs.Names.{JobLine}
use Rattle.flat_machine.specs.Bitmaps.{dirty_in}
use Rattle.flat_machine.specs.Comes.{job_line_of}
use Rattle.flat_machine.specs.Jobs.{target_written}
use Rattle.flat_machine.specs.State.{State}
use Rattle.job_progress.specs.Beginning.{work_begun}
use Rattle.qmp_codec.specs.declared.event.JobKind.{JobKind}
use Rattle.qmp_rules.specs.Table.{RunTable}
use Rattle.qmp_rules.specs.declared.rows.JobRecord.{JobRecord}
use Rattle.qmp_rules.specs.declared.rows.UsedBitmap.{UsedBitmap}
use Rattle.world_jobs.specs.declared.new_job.Aside.{Aside}

-- ---- what is kept for it

-- a bitmap, and an empty set for it
pub record AsideSeen : Type 0 where
  pub name : List ℕ
  pub spare : List Bool

abbrev pub aside_of : Aside → AsideSeen
aside_of aside = record { name = aside.name.bytes; spare = aside.spare }

pub record BegunJob : Type 0 where
  pub work : JobWork
  pub line : JobLine
  pub source : ℕ
  pub target : ℕ
  pub aside : Option AsideSeen

-- ---- what it makes of the bitmaps

abbrev pub frozen_by : ℕ → ℕ → Option AsideSeen → List Bitmap → List Bitmap
frozen_by source job None rows = rows
frozen_by source job (Some aside) rows = rows_after_call rows (Freeze source aside.name job)

abbrev pub bitmaps_after : BegunJob → List Bitmap → List Bitmap
bitmaps_after new rows =
    rows_after_call (frozen_by new.source new.work.job new.aside rows) (NoteAll new.target)

-- there is an empty set for its bitmap
abbrev pub HasSpare : BegunJob → List Bitmap → Type 0
HasSpare new rows = IfSome new.aside
    (λ aside. IfSome (find rows new.source aside.name) (IsSpareOf aside.spare))

-- ---- by the job's row

abbrev pub IsAsideOf : Option UsedBitmap → Option AsideSeen → Type 0
IsAsideOf None None = Unit {0}
IsAsideOf (Some used) (Some aside) = aside.name ≡ used.name
IsAsideOf _ _ = ⊥

-- It is the job of this row, of a table that has the row and of these bitmaps.
pub record IsNewJob (t : RunTable) (rows : List Bitmap) (row : JobRecord) (new : BegunJob) : Type 0
  where
    pub work : (s : State) → s.table ≡ t → s.dirty ≡ map dirty_in rows
        → new.work ≡ work_begun s row
    pub line : (s : State) → s.table ≡ t → new.line ≡ job_line_of s (Some row)
    pub source : new.source ≡ row.source
    pub target : target_written row ≡ Some new.target
    pub aside : IsAsideOf row.bitmap new.aside
    pub spare : HasSpare new rows

-- ---- as it is made

-- the bitmap of its source that it copies by
abbrev pub bitmap_by : List Bitmap → ℕ → Option (List ℕ) → Option Bitmap
bitmap_by rows source None = None
bitmap_by rows source (Some name) = find rows source name

-- all of its disk is left, or what the bitmap holds
abbrev pub work_by : JobKind → ℕ → ℕ → Option Bitmap → JobWork
work_by kind number size None = all_left (begun kind number size 65536)
work_by kind number size (Some bitmap) =
    granules_left bitmap.granularity bitmap.dirty (begun kind number size bitmap.granularity)

-- no job uses the bitmap
abbrev pub IsUsable : List Bitmap → ℕ → Option (List ℕ) → Type 0
IsUsable rows source None = Unit {0}
IsUsable rows source (Some name) = use_refusal (find rows source name) ≡ None

-- there is an empty set for it
abbrev pub IsAsideFor : List Bitmap → ℕ → Option (List ℕ) → Option AsideSeen → Type 0
IsAsideFor rows source None None = Unit {0}
IsAsideFor rows source (Some name) (Some aside) =
    (aside.name ≡ name) × IfSome (find rows source name) (IsSpareOf aside.spare)
IsAsideFor rows source _ _ = ⊥
