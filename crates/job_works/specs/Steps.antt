-- What a step of a job's copying leaves of its work and of the nodes.
use Rattle.std.specs.Prelude.{◌≡◌, ◌<◌, ℕ, Bool, false, List, Option, None, Result}
use Rattle.blk_base.specs.declared.fault.Fault.{Fault}
use Rattle.blk_copy.specs.declared.transfers.Transfer.{Transfer}
use Rattle.blk_nodes.specs.Contents.{disk_of}
use Rattle.blk_nodes.specs.Nodes.{Nodes, AreTold}
use Rattle.blk_nodes.specs.Writing.{IsApartFrom}
use Rattle.block_jobs.specs.Ahead.{IsAhead, is_owed}
use Rattle.block_jobs.specs.Work.{JobWork, block_at}
use Rattle.job_copies.specs.Guarding.{Guards}
use Rattle.job_copies.specs.Settling.{HoldsGoal, Settles}
use Rattle.job_copies.specs.Taking.{IsGoalOf, Takes}
use Rattle.qmp_codec.specs.declared.event.JobKind.{JobKind}
use Rattle.qmp_codec.specs.declared.event.JobKind.TheVariants.{Backup}

-- A block of a backup's source is guarded: its target is as far as before, and nothing of the block is owed.
pub record Guarded (old new : Nodes) (source target block : ℕ) (was now : JobWork) : Type 0 where
  pub guards : Guards old new was now source target block
  pub ahead : AreTold old.devices → IsApartFrom old source target → now.met ≡ None
      → (due : ℕ → Bool) (goal : List ℕ)
      → IsAhead due (is_owed Backup was) (disk_of old source) goal (disk_of old target)
      → IsAhead due (is_owed Backup now) (disk_of new source) goal (disk_of new target)
  pub free : now.met ≡ None → (place : ℕ) → place < was.size → block_at place ≡ block
      → is_owed Backup now place ≡ false

-- A copy is settled, of which the bytes have what the target is to have.
pub record Settled (kind : JobKind) (old new : Nodes) (target : ℕ) (t : Transfer) (bytes : List ℕ)
    (answer : Bool) (was now : JobWork) : Type 0 where
  pub settles : Settles kind old new was now target t bytes answer
  pub ahead : AreTold old.devices → now.met ≡ None → (due : ℕ → Bool) (source goal : List ℕ)
      → HoldsGoal kind was t.cluster due goal bytes
      → IsAhead due (is_owed kind was) source goal (disk_of old target)
      → IsAhead due (is_owed kind now) source goal (disk_of new target)

-- The next block is read, and the target is as far as before.
pub record Taken (kind : JobKind) (old new : Nodes) (source position : ℕ) (buffer : List ℕ)
    (answer : Result (Option Transfer) Fault) (was now : JobWork) : Type 0 where
  pub takes : Takes kind old new was now source position buffer answer
  pub ahead : now.met ≡ None → (due : ℕ → Bool) (disk goal made : List ℕ)
      → IsGoalOf kind disk goal → IsAhead due (is_owed kind was) disk goal made
      → IsAhead due (is_owed kind now) disk goal made
