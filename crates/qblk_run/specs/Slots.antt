-- What the turn of a slot does: the job in it is ready or ends, a block is copied for it, or nothing can be done for it.
use Rattle.std.specs.Prelude.{◌≡◌, ◌⊎◌, ◌↔◌, ◌<◌, ◌+◌, ℕ, Bool, true, false, if◌then◌else◌, IsTrue, List, [], ◌∷◌, Option, Some, None, IsSome, Result, Ok, Err, slice_get, take}
use Rattle.blk_base.specs.declared.fault.Fault.{Fault}
use Rattle.blk_bits.specs.Granules.{member_count}
use Rattle.blk_copy.specs.declared.transfers.Transfer.{Transfer}
use Rattle.blk_history.specs.Fold.{With}
use Rattle.blk_history.specs.Small.{IsSmallEnd}
use Rattle.blk_history.specs.declared.entry.JobEnd.{JobEnd}
use Rattle.block_jobs.specs.Work.{JobWork}
use Rattle.world_jobs.specs.declared.turned.Turned.{Turned}
use Rattle.world_jobs.specs.declared.turned.Turned.TheVariants as turned
use Rattle.flat_machine.specs.Blocked.{SlotWaits}
use Rattle.flat_machine.specs.Legal.{AllDone}
use Rattle.flat_machine.specs.Marks.{AreCalm, Drained, HasToWait, after_turn, must_drain}
use Rattle.flat_machine.specs.declared.opening.Opening.{Opening}
use Rattle.job_turns.specs.Turns.{step_of}
use Rattle.job_turns.specs.declared.step.Step.{Step}
use Rattle.job_turns.specs.declared.step.Step.TheVariants as step
use Rattle.job_works.specs.Works.{work_of}
use Rattle.node_copies.specs.Sectors.{block_of}
use Rattle.qmp_rules.specs.Table.{job_at, job_in}
use Rattle.qmp_rules.specs.declared.rows.JobRecord.{JobRecord}
use Rattle.world_goings.specs.Copied.{WasRead}
use Rattle.world_parts.specs.Comes.{Comes}
use Rattle.world_parts.specs.Counting.{seen_sources}
use Rattle.world_parts.specs.Face.{WorldSeen, seen_state}
use Rattle.world_parts.specs.Jobs.{EndsJob, ReadiesJob, SettlesBlock, TakesBlock}

-- ---- works

-- how many parts are left to copy
abbrev pub parts_left : List JobWork → ℕ
parts_left [] = 0
parts_left (work ∷ works) = member_count work.left + parts_left works

-- no copy is in flight
abbrev pub NoneFlies : List JobWork → Type 0
NoneFlies [] = Unit {0}
NoneFlies (work ∷ works) = (work.rows ≡ []) × NoneFlies works

-- The world comes of an opening, and no copy is in flight: so it is between turns.
pub record StandsInRun (w : WorldSeen) : Type 0 where
  pub opening : Opening
  pub comes : Comes opening w
  pub flights : NoneFlies w.works

-- ---- what each call of a slot says

-- what the turn of the job in a slot is to do
pub record HasStep (w : WorldSeen) (slot : ℕ) (step : Step) : Type 0 where
  pub row : JobRecord
  pub work : JobWork
  pub all_done : Bool
  pub done : IsTrue all_done ↔ AllDone (seen_state w)
  pub there : job_in w.table slot ≡ Some row
  pub copies : work_of w.works row.number ≡ Some work
  pub is : step_of all_done row work ≡ step

-- the source of a job that is asked to end is held from its turn on
abbrev pub drains_for : JobRecord → Drained → Drained
drains_for row drains = if must_drain row then after_turn row.number drains else drains

-- nothing is done for it but that, and then no request is in flight there
pub record SlotStays (w v : WorldSeen) (slot : ℕ) (step : Step) : Type 0 where
  pub has : HasStep w slot step
  pub calm : must_drain has.row ≡ true
      → AreCalm w.table w.progress.guests (has.row.source ∷ [])
  pub kept : v ≡ record w { drains = drains_for has.row w.drains }

-- or this one is
pub record SlotPutsOff (w v : WorldSeen) (slot g r : ℕ) : Type 0 where
  pub row : JobRecord
  pub there : job_in w.table slot ≡ Some row
  pub waits : HasToWait (seen_state w) row g r
  pub kept : v ≡ record w { drains = after_turn row.number w.drains }

-- that job is ready, and no call that was made for it failed
pub record SlotReadies (w v : WorldSeen) (slot : ℕ) : Type 0 where
  pub row : JobRecord
  pub there : job_in w.table slot ≡ Some row
  pub met : (seen_sources w).met_by row.number ≡ None
  pub readies : ReadiesJob w v row

-- that job ends
pub record SlotEnds (w v : WorldSeen) (slot : ℕ) : Type 0 where
  pub row : JobRecord
  pub why : JobEnd
  pub offset : ℕ
  pub there : job_in w.table slot ≡ Some row
  pub ends : EndsJob w v row why offset
  pub fits : IsSmallEnd why

abbrev pub IsTurned : WorldSeen → WorldSeen → ℕ → Turned → Type 0
IsTurned w v slot turned.Empty = (job_in w.table slot ≡ None) × (v ≡ w)
IsTurned w v slot turned.Copy = SlotStays w v slot step.Copy
IsTurned w v slot turned.Idle = SlotStays w v slot step.Wait
IsTurned w v slot (turned.Later g r) = SlotPutsOff w v slot g r
IsTurned w v slot turned.Became = SlotEnds w v slot ⊎ SlotReadies w v slot

-- what is given of the answer of a take
abbrev pub given_of : Result (Option Transfer) Fault → Option Transfer
given_of (Ok transfer) = transfer
given_of (Err fault) = None

pub record TakesInSlot (w v : WorldSeen) (slot : ℕ) (buffer : List ℕ)
    (result : Option Transfer) : Type 0 where
  pub row : JobRecord
  pub answer : Result (Option Transfer) Fault
  pub there : job_in w.table slot ≡ Some row
  pub given : result ≡ given_of answer
  pub takes : TakesBlock w v row buffer answer

-- or there is no job
abbrev pub HasTaken : WorldSeen → WorldSeen → ℕ → List ℕ → Option Transfer → Type 0
HasTaken w v slot buffer result =
    ((job_in w.table slot ≡ None) × (v ≡ w) × (result ≡ None))
    ⊎ TakesInSlot w v slot buffer result

-- so many bytes at the front of a buffer are those of a copy that is in flight
abbrev pub front_of : JobWork → Transfer → List ℕ → List ℕ
front_of work t buffer = take (block_of work.size t.cluster).len buffer

-- Where a copy is in flight, a buffer begins with what was read for it.
abbrev pub HoldsTaken : WorldSeen → Transfer → List ℕ → Type 0
HoldsTaken w t buffer =
    (o : Opening) (row : JobRecord) (work : JobWork) → Comes o w
    → job_at w.table t.job ≡ Some row → work_of w.works t.job ≡ Some work
    → WasRead o w row t (front_of work t buffer)

-- what of them is the block's is written
pub record SettlesFor (w v : WorldSeen) (t : Transfer) (bytes : List ℕ) (result : Bool) : Type 0
  where
    pub row : JobRecord
    pub target : ℕ
    pub block : List ℕ
    pub front : (work : JobWork) → work_of w.works t.job ≡ Some work → block ≡ front_of work t bytes
    pub there : job_at w.table t.job ≡ Some row
    pub settles : SettlesBlock w v row target t block result

abbrev pub HasSettled : WorldSeen → WorldSeen → Transfer → List ℕ → Bool → Type 0
HasSettled w v t bytes result =
    ((job_at w.table t.job ≡ None) × (v ≡ w) × (result ≡ false)) ⊎ SettlesFor w v t bytes result

-- ---- a slot's turn

-- a block is copied, or its copy fails: less is left
pub record SlotCopies (w v : WorldSeen) : Type 0 where
  pub kept : v ≡ record w {
    nodes = v.nodes;
    works = v.works;
    drains = record w.drains { jobs = v.drains.jobs };
  }
  pub less : parts_left v.works < parts_left w.works
  pub flights : NoneFlies v.works

-- a request in flight on the source of the job in the slot, which is asked to end
pub record IsPutOffIn (w : WorldSeen) (slot : ℕ) : Type 0 where
  pub row : JobRecord
  pub there : job_in w.table slot ≡ Some row
  pub guest : ℕ
  pub flies : With (slice_get w.progress.guests guest) (λ row. IsSome row.flight)

-- nothing can be done in the slot: it has no job, or one that is ready and waits, or one that such a request is in the way of
abbrev pub SlotHalts : WorldSeen → ℕ → Type 0
SlotHalts w slot = SlotWaits (seen_state w) slot ⊎ IsPutOffIn w slot

-- it holds a disk at most
pub record SlotRests (w v : WorldSeen) (slot : ℕ) : Type 0 where
  pub kept : v ≡ record w { drains = record w.drains { jobs = v.drains.jobs } }
  pub halts : SlotHalts v slot
  pub waits : SlotWaits (seen_state v) slot → v ≡ w

abbrev pub IsSlotTurn : WorldSeen → WorldSeen → ℕ → Bool → Type 0
IsSlotTurn w v slot true = SlotEnds w v slot ⊎ SlotReadies w v slot ⊎ SlotCopies w v
IsSlotTurn w v slot false = SlotRests w v slot
