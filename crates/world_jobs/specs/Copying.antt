-- What the blocks need that are read in a job's turn and written then, and what is left behind them.
use Rattle.std.specs.Prelude.{◌≡◌, ℕ, Bool, true, List, Some, length}
use Rattle.blk_copy.specs.Rows.{is_in_flight}
use Rattle.blk_copy.specs.declared.transfers.Transfer.{Transfer}
use Rattle.blk_nodes.specs.Nodes.{Nodes}
use Rattle.block_jobs.specs.Work.{HasRoomForAll, JobWork}
use Rattle.job_works.specs.Steps.{Settled}
use Rattle.job_works.specs.Works.{ChangesWork, work_of}
use Rattle.node_copies.specs.Sectors.{block_of}
use Rattle.qmp_rules.specs.declared.rows.JobRecord.{JobRecord}
use Rattle.world_jobs.specs.Guarding.{HasWorkOver}
use Rattle.world_parts.specs.Jobs.{WritesTarget}

-- its work has room for a copy of each block
pub record HasRoomToCopy (nodes : Nodes) (works : List JobWork) (row : JobRecord) : Type 0 where
  pub has : HasWorkOver nodes works row
  pub room : HasRoomForAll has.work

-- where a copy is in flight still, there are as many bytes as its block has
abbrev pub fits_copy : List JobWork → Transfer → List ℕ → Type 0
fits_copy works t bytes =
    (work : JobWork) → work_of works t.job ≡ Some work → is_in_flight t work.rows ≡ true
    → length bytes ≡ (block_of work.size t.cluster).len

-- a block that was read is written, or came too late
pub record SettlesFor (row : JobRecord) (nodes now : Nodes) (t : Transfer) (bytes : List ℕ)
    (answer : Bool) (works after : List JobWork) : Type 0 where
  pub target : ℕ
  pub target_is : row.target ≡ Some target
  pub writes : WritesTarget nodes now target
  pub settles : ChangesWork row.number (Settled row.kind nodes now target t bytes answer) works
      after
