-- What is so of disks behind the end of a job.
use Rattle.std.specs.Prelude.{◌≡◌, ℕ, List}
use Rattle.blk_history.specs.declared.event.Event.{Event}
use Rattle.qmp_rules.specs.declared.rows.JobRecord.{JobRecord}
use Rattle.flat_machine.specs.Begun.{backed_up}
use Rattle.flat_machine.specs.Jobs.{begin, granules_of}
use Rattle.flat_machine.specs.Machine.{replay}
use Rattle.flat_machine.specs.State.{State, bytes_in, bytes_at_node}
use Rattle.job_tables.specs.Running.{IsSettledAt, IsUnsettledAt}
use Rattle.job_results.specs.Starts.{StartOf}

-- the node has these bytes, and where it is in the table they are its flat disk
pub record ShowsDisk (s : State) (node : ℕ) (bytes : List ℕ) : Type 0 where
  pub reads : bytes_in s.disks node ≡ bytes
  pub settled : IsSettledAt s.table node

-- The job's start stands in the history, and the node shows the disk that the job's source had there.
pub record ShowsStart (first : State) (h : List Event) (number : ℕ) (row : JobRecord) (s : State)
    (node : ℕ) : Type 0 where
  pub origin : StartOf first h number row
  pub disk : ShowsDisk s node (bytes_at_node (replay first origin.before) row.source)

-- what a backup is to make of the disks that it finds: by a bitmap the granules that were dirty are the source's, and the others
-- the target's
abbrev pub copy_of : State → JobRecord → List ℕ
copy_of s row = backed_up (begin s row) (granules_of s row row.bitmap)

-- its start stands in the history, and the node shows what it is to make of the disks that it found there
pub record ShowsCopy (first : State) (h : List Event) (number : ℕ) (row : JobRecord) (s : State)
    (node : ℕ) : Type 0 where
  pub origin : StartOf first h number row
  pub disk : ShowsDisk s node (copy_of (replay first origin.before) origin.was)

-- disks are as they were, and a node without a flat disk still has none
pub record SettlesNone (s now : State) : Type 0 where
  pub disks : now.disks ≡ s.disks
  pub unsettled : (node : ℕ) → IsUnsettledAt s.table node → IsUnsettledAt now.table node
