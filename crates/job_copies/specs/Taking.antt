-- What is done where a block of a backup or a mirror is read, to be written later.
use Rattle.std.specs.Prelude.{◌≡◌, ℕ, ◌*◌, take, List, Option, Some, None, Result, Ok, Err}
use Rattle.blk_base.specs.Content.{bytes_at}
use Rattle.blk_base.specs.declared.fault.Fault.{Fault}
use Rattle.blk_base.specs.declared.fault.Outcome.{Outcome}
use Rattle.blk_base.specs.declared.fault.Outcome.TheVariants.{Good}
use Rattle.blk_copy.specs.declared.transfers.Transfer.{Transfer}
use Rattle.blk_nodes.specs.Contents.{disk_of}
use Rattle.blk_nodes.specs.Nodes.{Nodes, AreTold}
use Rattle.block_jobs.specs.Work.{JobWork, after_take, failed_by, next_block}
use Rattle.qmp_codec.specs.declared.event.JobKind.{JobKind}
use Rattle.qmp_codec.specs.declared.event.JobKind.TheVariants.{Mirror}
use Rattle.node_copies.specs.Putting.{ReadsBlock, answer_of}
use Rattle.node_copies.specs.Sectors.{block_of}

-- the next block was read, and is in flight
pub record TakesBlock (kind : JobKind) (old new : Nodes) (was now : JobWork)
    (source position : ℕ) (buffer : List ℕ) (t : Transfer) : Type 0 where
  pub next : next_block was ≡ Some t.cluster
  pub is : t ≡ record { job = was.job; cluster = t.cluster; position = position }
  pub same : new ≡ old
  pub reads : ReadsBlock old new source (block_of was.size t.cluster) buffer Good
  pub bytes : AreTold old.devices
      → take (block_of was.size t.cluster).len buffer
      ≡ bytes_at (disk_of old source) (t.cluster * 65536) (block_of was.size t.cluster).len
  pub work : now ≡ after_take kind t was

-- or its read failed: then nothing is done for the job any more
pub record FailsToTake (old new : Nodes) (was now : JobWork) (source : ℕ) (buffer : List ℕ)
    (fault : Fault) : Type 0 where
  pub block : ℕ
  pub next : next_block was ≡ Some block
  pub read : Outcome
  pub reads : ReadsBlock old new source (block_of was.size block) buffer read
  pub is : answer_of read ≡ Err fault
  pub work : now ≡ failed_by fault was

-- or there is no next block, and nothing is done
abbrev pub Takes : JobKind → Nodes → Nodes → JobWork → JobWork → ℕ → ℕ → List ℕ
    → Result (Option Transfer) Fault → Type 0
Takes kind old new was now source position buffer (Ok None) =
    (next_block was ≡ None) × (new ≡ old) × (now ≡ was)
Takes kind old new was now source position buffer (Ok (Some t)) =
    TakesBlock kind old new was now source position buffer t
Takes kind old new was now source position buffer (Err fault) =
    FailsToTake old new was now source buffer fault

-- a mirror's result is to have what the source has
abbrev pub IsGoalOf : JobKind → List ℕ → List ℕ → Type 0
IsGoalOf Mirror source goal = source ≡ goal
IsGoalOf kind source goal = Unit {0}
