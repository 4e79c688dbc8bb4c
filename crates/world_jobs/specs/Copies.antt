-- Copies of a world's jobs: a block that is read in a slot, and one that is written.
use Rattle.std.specs.Prelude.{◌≡◌, ℕ, Bool, true, false, List, Option, Some, None, Result, Ok, Err, take, is_some}
use Rattle.blk_base.specs.declared.fault.Fault.{Fault}
use Rattle.blk_copy.specs.Rows.{is_in_flight}
use Rattle.blk_copy.specs.declared.transfers.Transfer.{Transfer}
use Rattle.block_jobs.specs.Work.{JobWork}
use Rattle.qmp_rules.specs.Table.{job_in}
use Rattle.qmp_rules.specs.declared.rows.JobRecord.{JobRecord}
use Rattle.world_parts.specs.Face.{WorldSeen}
use Rattle.world_parts.specs.Jobs.{SettlesBlock, TakesBlock}

-- what is told of a block that is read: none where there is none to be read, and where the read failed
abbrev pub IsToldOf : Result (Option Transfer) Fault → Option Transfer → Type 0
IsToldOf (Ok t) told = told ≡ t
IsToldOf (Err fault) told = told ≡ None

pub record TakesIn (w v : WorldSeen) (row : JobRecord) (buffer : List ℕ)
    (told : Option Transfer) : Type 0 where
  pub answer : Result (Option Transfer) Fault
  pub takes : TakesBlock w v row buffer answer
  pub told_is : IsToldOf answer told

-- the job in a slot has its next block read, where there is one
abbrev pub IsTaken : Option JobRecord → WorldSeen → WorldSeen → List ℕ → Option Transfer → Type 0
IsTaken None w v buffer told = (told ≡ None) × (v ≡ w)
IsTaken (Some row) w v buffer told = TakesIn w v row buffer told

pub record SettlesIn (w v : WorldSeen) (row : JobRecord) (t : Transfer) (bytes : List ℕ)
    (answer : Bool) : Type 0 where
  pub target : ℕ
  pub settles : SettlesBlock w v row target t bytes answer

-- of a job that is over no block is written
abbrev pub IsSettled : Option JobRecord → WorldSeen → WorldSeen → Transfer → List ℕ → Bool → Type 0
IsSettled None w v t bytes answer = (answer ≡ false) × (v ≡ w)
IsSettled (Some row) w v t bytes answer = SettlesIn w v row t bytes answer
