-- A run of a world, from its first turn to its end.
use Rattle.std.specs.Prelude.{◌≡◌, ℕ, true, false, List, Option, None, MatchOption, is_some}
use Rattle.blk_base.specs.Files.{is_out}
use Rattle.blk_base.specs.Written.{Written}
use Rattle.blk_base.specs.declared.fault.FaultAt.{FaultAt}
use Rattle.trace_codec.specs.declared.waits.Waits.{Waits}
use Rattle.blk_history.specs.Fold.{With}
use Rattle.blk_history.specs.Names.{JobLine}
use Rattle.blk_history.specs.Recorded.{Recorded}
use Rattle.flat_machine.specs.Agreement.{ReadAsDisks}
use Rattle.flat_machine.specs.Final.{AreDisks}
use Rattle.flat_machine.specs.State.{State}
use Rattle.world_files.specs.Closing.{EndsWorld, AreNodesFlushed}
use Rattle.world_parts.specs.Face.{WorldSeen, held, told_bytes, contents_of}
use Rattle.world_parts.specs.Steps.{StoreSeen}
use Rattle.qblk_run.specs.Run.{seen_waits}
use Rattle.qblk_run.specs.Tasks.{Tasks}
use Rattle.qblk_run.specs.Turns.{StaysIn}
use Rattle.qblk_run.specs.Worlds.{ComesOn}
use Rattle.qblk_run.specs.Rounds.{Continues, GivesUp, AllRest, AreDone, IsFirstUndone}

-- the world was closed, and left its store so
pub record IsEnd (v : WorldSeen) (store : StoreSeen) (fault : Option FaultAt) : Type 0 where
  pub closed : EndsWorld v store fault
  pub faults : store.faults ≡ v.faults
  pub room : store.room ≡ v.room
  pub none_out : (name : List ℕ) → is_out name store.opened ≡ false
  pub flushed : is_some v.files ≡ true → fault ≡ None → AreNodesFlushed v.table store.files
  pub disks : is_some v.files ≡ true → (s : State) → s.table ≡ v.table
      → ReadAsDisks s (contents_of v) → With store.files (λ files. AreDisks files s)
  pub held : is_some v.files ≡ true → (name : List ℕ) → told_bytes store.files name ≡ held v name

-- A world was played until no actor could go on, and closed; told are its history, the jobs that began, the first fault of the last
-- flushes, and the first actor that is not done.
pub record IsPlayed (w : WorldSeen) (before : Tasks) (store : StoreSeen) (log : Recorded)
    (jobs : List JobLine) (fault : Option FaultAt)
    (waiting : Option (ℕ × Waits Written)) : Type 0 where
  pub now : WorldSeen
  pub after : Tasks
  pub so : Continues w now before after
  pub rest : AllRest now after
  pub stays : StaysIn w now
  pub comes : ComesOn w now before.script.orders after.script.orders
  pub log_is : log ≡ now.progress.log
  pub jobs_are : jobs ≡ now.progress.jobs
  pub end : IsEnd now store fault
  pub named : MatchOption waiting (AreDone after)
      (λ r. IsFirstUndone now after r.0 (seen_waits r.1))

-- Memory wasn't had for a line: the world was closed as that left it.
pub record IsGivenUp (w : WorldSeen) (before : Tasks) (store : StoreSeen) : Type 0 where
  pub now : WorldSeen
  pub gives : GivesUp w now before
  pub stays : StaysIn w now
  pub fault : Option FaultAt
  pub end : IsEnd now store fault
