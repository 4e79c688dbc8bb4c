-- The work of a job that begins.
use Rattle.std.specs.Prelude.{◌≡◌, ◌⊎◌, ◌<◌, ◌%◌, ℕ, true, List, length, Option, Some, None}
use Rattle.blk_base.specs.Pieces.{block_size}
use Rattle.blk_bitmaps.specs.Rows.{granule_count}
use Rattle.block_jobs.specs.Work.{JobWork, all_left, begun, granules_left, sector_size}
use Rattle.qmp_rules.specs.declared.rows.JobRecord.{JobRecord}
use Rattle.qmp_rules.specs.Ends.{settles_target}
use Rattle.qmp_rules.specs.Queries.{bytes_of_node}
use Rattle.flat_machine.specs.Jobs.{granules_of}
use Rattle.flat_machine.specs.State.{State, Dirty, bytes_at_node}
use Rattle.job_progress.specs.Piecing.{follows}

-- all of its disk, or what the bitmap holds
abbrev pub begun_by : JobRecord → ℕ → Option Dirty → JobWork
begun_by row size None = all_left (begun row.kind row.number size 65536)
begun_by row size (Some d) =
    granules_left d.granularity d.set (begun row.kind row.number size d.granularity)

abbrev pub work_begun : State → JobRecord → JobWork
work_begun s row =
    begun_by row (bytes_of_node s.table row.source) (granules_of s row row.bitmap)

-- granules of a disk of so many bytes: blocks are made of them, or they of blocks
pub record AreGranulesOf (size : ℕ) (d : Dirty) : Type 0 where
  pub some : 0 < d.granularity
  pub fit : ((d.granularity % sector_size ≡ 0) × (block_size % d.granularity ≡ 0))
      ⊎ (d.granularity % block_size ≡ 0)
  pub whole : length d.set ≡ granule_count size d.granularity

-- Source and target, or base, have disks of one size, and a target that a backup by bitmap is to settle has the state's. No
-- mirror or commit copies by bitmap.
pub record CanBeCopied (s : State) (reads : ℕ → List ℕ) (row : JobRecord) (target : ℕ) : Type 0
  where
    pub is_target : row.target ≡ Some target
    pub source : length (bytes_at_node s row.source) ≡ bytes_of_node s.table row.source
    pub whole : length (reads target) ≡ bytes_of_node s.table row.source
    pub found : length (bytes_at_node s target) ≡ bytes_of_node s.table row.source
    pub settled : (d : Dirty) → granules_of s row row.bitmap ≡ Some d
        → settles_target row.bitmap ≡ true → reads target ≡ bytes_at_node s target
    pub bare : follows row.kind ≡ true → row.bitmap ≡ None
    pub granules : (d : Dirty) → granules_of s row row.bitmap ≡ Some d
        → AreGranulesOf (bytes_of_node s.table row.source) d
