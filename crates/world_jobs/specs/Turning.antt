-- What the turn of a backup or a mirror is to do, by its work, and what it leaves of a world.
use Rattle.std.specs.Prelude.{◌≡◌, ◌⊎◌, ◌↔◌, ◌∷◌, [], ℕ, Bool, true, false, if◌then◌else◌, Some, None, IsTrue}
use Rattle.blk_history.specs.Fold.{With}
use Rattle.blk_history.specs.declared.entry.JobEnd.{JobEnd}
use Rattle.block_jobs.specs.Work.{JobWork}
use Rattle.flat_machine.specs.Legal.{AllDone}
use Rattle.flat_machine.specs.Marks.{AreCalm, Drained, HasToWait, after_turn, must_drain}
use Rattle.job_turns.specs.Turns.{step_of}
use Rattle.job_turns.specs.declared.step.Step.{Step}
use Rattle.job_turns.specs.declared.step.Step.TheVariants as step
use Rattle.job_works.specs.Works.{work_of}
use Rattle.qmp_rules.specs.Table.{job_in}
use Rattle.qmp_rules.specs.declared.rows.JobRecord.{JobRecord}
use Rattle.world_jobs.specs.declared.turned.Turn.{Turn}
use Rattle.world_jobs.specs.declared.turned.Turn.TheVariants as turn
use Rattle.world_jobs.specs.declared.turned.Turned.{Turned}
use Rattle.world_jobs.specs.declared.turned.Turned.TheVariants as turned
use Rattle.world_parts.specs.Face.{WorldSeen, seen_state}
use Rattle.world_parts.specs.Jobs.{EndsJob, ReadiesJob}

-- ---- what it is to do

-- a backup or a mirror copies no block in its turn
abbrev pub IsCopyStep : Step → Type 0
IsCopyStep step.Go = ⊥
IsCopyStep other = Unit {0}

abbrev pub IsStepFor : Step → Turn → Type 0
IsStepFor is (turn.End why) = is ≡ step.End why
IsStepFor is (turn.Finish why) = is ≡ step.Finish why
IsStepFor is turn.GetReady = is ≡ step.GetReady
IsStepFor is turn.Copy = is ≡ step.Copy
IsStepFor is turn.Wait = is ≡ step.Wait

abbrev pub IsTurnOf : Bool → JobRecord → JobWork → Turn → Type 0
IsTurnOf all_done row work is = IsStepFor (step_of all_done row work) is

-- ---- what it drains

-- A turn of a job that is asked to end waits until no request is in flight on its source, but for an end that comes whatever is left.
abbrev pub waits_first : Turn → JobRecord → Bool
waits_first (turn.End why) row = false
waits_first turn.GetReady row = false
waits_first is row = must_drain row

-- and from that turn on the source is held
abbrev pub drains_at : Turn → JobRecord → Drained → Drained
drains_at is row drains = if waits_first is row then after_turn row.number drains else drains

-- ---- what it leaves

-- the job in the slot, and what its turn is to do
pub record HasTurn (w : WorldSeen) (slot : ℕ) (is : Turn) : Type 0 where
  pub row : JobRecord
  pub there : job_in w.table slot ≡ Some row
  pub all_done : Bool
  pub done : IsTrue all_done ↔ AllDone (seen_state w)
  pub step : With (work_of w.works row.number) (λ work. IsTurnOf all_done row work is)

-- no request is in flight that it would have to wait for
abbrev pub FindsCalm : WorldSeen → Turn → JobRecord → Type 0
FindsCalm w is row =
    waits_first is row ≡ true → AreCalm w.table w.progress.guests (row.source ∷ [])

pub record StaysAsTurn (w v : WorldSeen) (slot : ℕ) (is : Turn) : Type 0 where
  pub has : HasTurn w slot is
  pub calm : FindsCalm w is has.row
  pub kept : v ≡ record w { drains = drains_at is has.row w.drains }

-- this request is
pub record WaitsInTurn (w v : WorldSeen) (slot g r : ℕ) : Type 0 where
  pub is : Turn
  pub has : HasTurn w slot is
  pub first : waits_first is has.row ≡ true
  pub waits : HasToWait (seen_state w) has.row g r
  pub kept : v ≡ record w { drains = after_turn has.row.number w.drains }

abbrev pub EndsAs : Turn → JobEnd → Type 0
EndsAs (turn.End why) outcome = outcome ≡ why
EndsAs (turn.Finish why) outcome = outcome ≡ why
EndsAs is outcome = ⊥

pub record EndsInTurn (w v : WorldSeen) (slot : ℕ) : Type 0 where
  pub is : Turn
  pub why : JobEnd
  pub offset : ℕ
  pub has : HasTurn w slot is
  pub so : EndsAs is why
  pub calm : FindsCalm w is has.row
  pub ends : EndsJob w v has.row why offset

pub record ReadiesInTurn (w v : WorldSeen) (slot : ℕ) : Type 0 where
  pub has : HasTurn w slot turn.GetReady
  pub readies : ReadiesJob w v has.row

abbrev pub IsTurned : WorldSeen → WorldSeen → ℕ → Turned → Type 0
IsTurned w v slot turned.Empty = (job_in w.table slot ≡ None) × (v ≡ w)
IsTurned w v slot turned.Copy = StaysAsTurn w v slot turn.Copy
IsTurned w v slot turned.Idle = StaysAsTurn w v slot turn.Wait
IsTurned w v slot (turned.Later g r) = WaitsInTurn w v slot g r
IsTurned w v slot turned.Became = EndsInTurn w v slot ⊎ ReadiesInTurn w v slot
