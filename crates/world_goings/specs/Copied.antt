-- What is to be so of what a job copies.
use Rattle.std.specs.Prelude.{◌≡◌, ◌≢◌, ℕ, ◌+◌, ◌<◌, ◌≤◌, true, Contains, IfSome, IsSome, List, take, Some, is_some, option_and_then}
use Rattle.blk_base.specs.Pieces.{Extent}
use Rattle.blk_copy.specs.Rows.{is_in_flight}
use Rattle.blk_copy.specs.declared.transfers.Transfer.{Transfer}
use Rattle.block_jobs.specs.Work.{JobWork, block_at}
use Rattle.blk_nodes.specs.Nodes.{Nodes, device_in, row_at}
use Rattle.blk_nodes.specs.Writing.{own_file}
use Rattle.blk_nodes.specs.declared.row.Row.{Row}
use Rattle.node_copies.specs.Sectors.{block_of}
use Rattle.qmp_rules.specs.declared.rows.JobRecord.{JobRecord}
use Rattle.flat_machine.specs.Opening.{start}
use Rattle.flat_machine.specs.declared.opening.Opening.{Opening}
use Rattle.job_progress.specs.Going.{taken_bytes}
use Rattle.job_works.specs.Works.{work_of}
use Rattle.world_parts.specs.Counting.{AreSameDevices}
use Rattle.world_parts.specs.Face.{WorldSeen}
use Rattle.world_parts.specs.Jobs.{HasCopiedAll}
use Rattle.world_parts.specs.Keeping.{rise_of}

-- Where the store tells its files, and the copy is still in flight, these are the bytes of the block's part of the disk, as
-- they were when it was taken.
abbrev pub WasRead : Opening → WorldSeen → JobRecord → Transfer → List ℕ → Type 0
WasRead o w row t bytes =
    is_some w.files ≡ true → (work : JobWork) → work_of w.works row.number ≡ Some work
    → is_in_flight t work.rows ≡ true
    → bytes ≡ take (block_of work.size t.cluster).len
    (taken_bytes (start o) w.progress.log.events row t)

-- each place of a part is one of a block
abbrev pub IsInBlock : Extent → ℕ → Type 0
IsInBlock part block =
    (i : ℕ) → part.start ≤ i → i < part.start + part.len → block_at i ≡ block

-- a node isn't over the file that another one writes
abbrev pub IsElsewhere : Nodes → ℕ → ℕ → Type 0
IsElsewhere nodes target node =
    (row : Row) (file : ℕ) → row_at nodes target ≡ Some row
    → own_file nodes target row.driver ≡ Some file → node ≢ file

-- Devices are the same, of which counts alone may have risen, and files hold the same but that of the target.
pub record LeavesFiles (old new : Nodes) (target : ℕ) : Type 0 where
  pub devices : AreSameDevices old.devices new.devices
  pub others : (node : ℕ) → IsElsewhere old target node
      → option_and_then (λ device. device.content) (device_in new.devices node)
      ≡ option_and_then (λ device. device.content) (device_in old.devices node)

-- nothing is left to do for a job that met a fault
abbrev pub IsDoneOnceFailed : JobWork → Type 0
IsDoneOnceFailed work = IsSome work.met → HasCopiedAll work

abbrev pub FailedAreDone : List JobWork → Type 0
FailedAreDone works = (work : JobWork) → Contains works work → IsDoneOnceFailed work

-- the count of the fault that a job met is one of 64 bits
abbrev pub HasSmallFault : JobWork → Type 0
HasSmallFault work = IfSome (rise_of work.met) (λ rise. rise.count ≤ 18446744073709551615)
