-- What is done for the backup of a node before a guest writes there.
use Rattle.std.specs.Prelude.{◌≡◌, ◌<◌, ℕ, ◌==◌, Bool, false, List, Option, Some, None, find}
use Rattle.blk_nodes.specs.Nodes.{Nodes, node_size}
use Rattle.blk_nodes.specs.Writing.{MayWriteThrough}
use Rattle.block_jobs.specs.Work.{JobWork, block_count}
use Rattle.job_works.specs.Steps.{Guarded}
use Rattle.job_works.specs.Works.{ChangesWork, work_of}
use Rattle.qmp_codec.specs.declared.event.JobKind.{JobKind}
use Rattle.qmp_codec.specs.declared.event.JobKind.TheVariants.{Backup}
use Rattle.qmp_rules.specs.Table.{RunTable}
use Rattle.qmp_rules.specs.declared.rows.JobRecord.{JobRecord}
use Rattle.world_parts.specs.Jobs.{WritesTarget}

abbrev pub backs_up : ℕ → JobRecord → JobKind → Bool
backs_up node row Backup = row.source == node
backs_up node row kind = false

-- the job is a backup of the node
abbrev pub is_backup_of : ℕ → JobRecord → Bool
is_backup_of node row = backs_up node row row.kind

abbrev pub backup_of : RunTable → ℕ → Option JobRecord
backup_of t node = find (is_backup_of node) t.jobs

-- ---- what a job's steps need of nodes and works

-- it has its work, over the disk of its source
pub record HasWorkOver (nodes : Nodes) (works : List JobWork) (row : JobRecord) : Type 0 where
  pub work : JobWork
  pub there : work_of works row.number ≡ Some work
  pub source : node_size nodes row.source ≡ work.size

-- and a target of that size, which may be written
pub record HasTarget (nodes : Nodes) (works : List JobWork) (row : JobRecord) : Type 0 where
  pub has : HasWorkOver nodes works row
  pub target : ℕ
  pub target_is : row.target ≡ Some target
  pub size : node_size nodes target ≡ has.work.size
  pub may : MayWriteThrough nodes target

-- the backup of a node has these, and its disk has the block
abbrev pub CanGuard : RunTable → Nodes → List JobWork → ℕ → ℕ → Type 0
CanGuard t nodes works node block =
    (row : JobRecord) → backup_of t node ≡ Some row
    → (has : HasTarget nodes works row) × (block < block_count has.has.work.size)

-- ---- what is left

-- what is left of the block was copied for the job
pub record GuardsFor (row : JobRecord) (nodes now : Nodes) (block : ℕ)
    (works after : List JobWork) : Type 0 where
  pub target : ℕ
  pub target_is : row.target ≡ Some target
  pub writes : WritesTarget nodes now target
  pub guards : ChangesWork row.number (Guarded nodes now row.source target block) works after

abbrev pub IsGuardedBy : Option JobRecord → Nodes → Nodes → ℕ → List JobWork → List JobWork → Type 0
IsGuardedBy None nodes now block works after = (now ≡ nodes) × (after ≡ works)
IsGuardedBy (Some row) nodes now block works after = GuardsFor row nodes now block works after
