-- What is done with a block that was read for a job and is written then.
use Rattle.std.specs.Prelude.{◌≡◌, ℕ, ◌-◌, ◌*◌, ◌^◌, ◌<◌, Bool, true, false, not, List, slice_index, Result, Ok, Err}
use Rattle.blk_base.specs.Pieces.{block_size}
use Rattle.blk_base.specs.declared.fault.Fault.{Fault}
use Rattle.blk_base.specs.declared.fault.Outcome.{Outcome}
use Rattle.blk_copy.specs.Rows.{is_in_flight}
use Rattle.blk_copy.specs.declared.transfers.Transfer.{Transfer}
use Rattle.blk_nodes.specs.Nodes.{Nodes, node_size}
use Rattle.block_jobs.specs.Work.{JobWork, after_settle, block_at, failed_by, is_left, sectors_left}
use Rattle.qmp_codec.specs.declared.event.JobKind.{JobKind}
use Rattle.qmp_codec.specs.declared.event.JobKind.TheVariants.{Mirror}
use Rattle.node_copies.specs.Putting.{PutsRuns, answer_of}
use Rattle.node_copies.specs.Sectors.{block_of, runs_of}

-- of a mirror's block all is written, and of any other what is left of it
abbrev pub settled_sectors : JobKind → JobWork → ℕ → ℕ
settled_sectors Mirror work block = 2 ^ 128 - 1
settled_sectors kind work block = sectors_left work block

-- a place of the block that this makes good: of a mirror's what wasn't written since it was read, of any other what is left
abbrev pub makes_good : JobKind → JobWork → ℕ → Bool
makes_good Mirror work place = not (is_left work place)
makes_good kind work place = is_left work place

-- what was read of a block has there what the result is to have
abbrev pub HoldsGoal : JobKind → JobWork → ℕ → (ℕ → Bool) → List ℕ → List ℕ → Type 0
HoldsGoal kind work block due goal bytes =
    (place : ℕ) → place < work.size → block_at place ≡ block → makes_good kind work place ≡ true
    → due place ≡ true
    → slice_index bytes (place - block * block_size) ≡ slice_index goal place

-- the work behind a write that was answered so
abbrev pub after_write : Result (Unit {0}) Fault → JobKind → ℕ → JobWork → JobWork
after_write (Ok done) kind block work = after_settle kind block work
after_write (Err fault) kind block work = failed_by fault work

-- the copy is in flight, and its block is written
pub record WritesCopy (kind : JobKind) (old new : Nodes) (was now : JobWork) (target : ℕ)
    (t : Transfer) (bytes : List ℕ) : Type 0 where
  pub flies : is_in_flight t was.rows ≡ true
  pub wrote : Outcome
  pub puts : PutsRuns
      (runs_of (block_of (node_size old target) t.cluster) (settled_sectors kind was t.cluster))
      (block_of (node_size old target) t.cluster) old new target bytes wrote
  pub work : now ≡ after_write (answer_of wrote) kind t.cluster was

-- or it came too late, and nothing is done
abbrev pub Settles : JobKind → Nodes → Nodes → JobWork → JobWork → ℕ → Transfer → List ℕ
    → Bool → Type 0
Settles kind old new was now target t bytes true = WritesCopy kind old new was now target t bytes
Settles kind old new was now target t bytes false =
    (is_in_flight t was.rows ≡ false) × (new ≡ old) × (now ≡ was)
