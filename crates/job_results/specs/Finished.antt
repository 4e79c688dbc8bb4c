-- What the finished backups and mirrors of a history show.
use Rattle.std.specs.Prelude.{◌≡◌, ◌++◌, [], ◌∷◌, ℕ, true, false, List, Some, None}
use Rattle.blk_history.specs.Fold.{Each}
use Rattle.blk_history.specs.declared.entry.JobEnd.{JobEnd}
use Rattle.blk_history.specs.declared.entry.JobEnd.TheVariants.{Completed}
use Rattle.blk_history.specs.declared.event.Event.{Event}
use Rattle.blk_history.specs.declared.event.Event.TheVariants.{End}
use Rattle.qmp_codec.specs.declared.event.JobKind.TheVariants.{Backup, Mirror}
use Rattle.qmp_rules.specs.declared.rows.JobRecord.{JobRecord}
use Rattle.qmp_rules.specs.Ends.{settles_target}
use Rattle.qmp_rules.specs.Table.{job_at}
use Rattle.flat_machine.specs.Jobs.{is_success}
use Rattle.flat_machine.specs.Machine.{after, replay}
use Rattle.flat_machine.specs.Opening.{start}
use Rattle.flat_machine.specs.State.{State, bytes_at_node, flat_disk_of}
use Rattle.flat_machine.specs.declared.opening.Opening.{Opening}
use Rattle.job_tables.specs.Jobs.{JobsStand}
use Rattle.job_results.specs.Starts.{StartOf}
use Rattle.job_results.specs.Disks.{SettlesNone, copy_of}

-- ---- the ends of a history

-- the end of a job in a history, and the job's row right before it
pub record EndIn (o : Opening) (h : List Event) : Type 0 where
  pub before : List Event
  pub behind : List Event
  pub number : ℕ
  pub why : JobEnd
  pub offset : ℕ
  pub row : JobRecord
  pub place : h ≡ before ++ End number why offset ∷ behind
  pub found : job_at (replay (start o) before).table number ≡ Some row

-- the state right before an end, and the one right behind it
abbrev pub before_end : (o : Opening) (h : List Event) → EndIn o h → State
before_end o h e = replay (start o) e.before

abbrev pub behind_end : (o : Opening) (h : List Event) → EndIn o h → State
behind_end o h e = after (before_end o h e) (End e.number e.why e.offset)

-- jobs stand right before each end
abbrev pub StandsAtEnd : State → Event → Type 0
StandsAtEnd s (End number why offset) = JobsStand s.table
StandsAtEnd s e = Unit {0}

abbrev pub StandAtEnds : Opening → List Event → Type 0
StandAtEnds o h = Each after StandsAtEnd (start o) h

-- at most the first of these entries is an end
abbrev pub IsNoEnd : Event → Type 0
IsNoEnd (End number why offset) = ⊥
IsNoEnd e = Unit {0}

abbrev pub AreNoEnds : List Event → Type 0
AreNoEnds [] = Unit {0}
AreNoEnds (e ∷ es) = IsNoEnd e × AreNoEnds es

abbrev pub EndsFirst : List Event → Type 0
EndsFirst [] = Unit {0}
EndsFirst (e ∷ es) = AreNoEnds es

-- ---- what they show

-- the job began before, and the target's flat disk is the one that the source had then
pub record HasDiskOfStart (o : Opening) (h : List Event) (e : EndIn o h) (target : ℕ) : Type 0 where
  pub origin : StartOf (start o) e.before e.number e.row
  pub disk : flat_disk_of (behind_end o h e) target
      ≡ Some (bytes_at_node (replay (start o) origin.before) e.row.source)

-- a backup that completed, and copied the whole disk, leaves that
abbrev pub BackupsShowTheirStart : Opening → List Event → Type 0
BackupsShowTheirStart o h = (e : EndIn o h) (target : ℕ) → e.why ≡ Completed
    → e.row.kind ≡ Backup → e.row.target ≡ Some target → e.row.bitmap ≡ None
    → HasDiskOfStart o h e target

-- the same by a bitmap, onto a target that had a flat disk
pub record HasCopyOfStart (o : Opening) (h : List Event) (e : EndIn o h) (target : ℕ) : Type 0 where
  pub origin : StartOf (start o) e.before e.number e.row
  pub disk : flat_disk_of (behind_end o h e) target
      ≡ Some (copy_of (replay (start o) origin.before) origin.was)

abbrev pub BackupsShowTheirCopy : Opening → List Event → Type 0
BackupsShowTheirCopy o h = (e : EndIn o h) (target : ℕ) → e.why ≡ Completed
    → e.row.kind ≡ Backup → e.row.target ≡ Some target → settles_target e.row.bitmap ≡ true
    → HasCopyOfStart o h e target

-- a mirror that ended without error leaves the disk that its source has right before
abbrev pub MirrorsShowTheirEnd : Opening → List Event → Type 0
MirrorsShowTheirEnd o h = (e : EndIn o h) (target : ℕ) → is_success e.why ≡ true
    → e.row.kind ≡ Mirror → e.row.target ≡ Some target
    → flat_disk_of (behind_end o h e) target
    ≡ Some (bytes_at_node (before_end o h e) e.row.source)

-- a backup by bitmap onto a target that had none changes no disk, and gives no node one
abbrev pub BackupsOntoNoneShowNothing : Opening → List Event → Type 0
BackupsOntoNoneShowNothing o h = (e : EndIn o h) → e.why ≡ Completed → e.row.kind ≡ Backup
    → settles_target e.row.bitmap ≡ false → SettlesNone (before_end o h e) (behind_end o h e)

-- neither does an end without success
abbrev pub OthersShowNothing : Opening → List Event → Type 0
OthersShowNothing o h = (e : EndIn o h) → is_success e.why ≡ false
    → SettlesNone (before_end o h e) (behind_end o h e)

-- all of it
pub record CopiesAreShown (o : Opening) (h : List Event) : Type 0 where
  pub backups : BackupsShowTheirStart o h
  pub by_bitmap : BackupsShowTheirCopy o h
  pub onto_none : BackupsOntoNoneShowNothing o h
  pub mirrors : MirrorsShowTheirEnd o h
  pub others : OthersShowNothing o h
