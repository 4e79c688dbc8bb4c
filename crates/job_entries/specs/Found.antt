-- What the starts of jobs found of disks, while the jobs run.
use Rattle.std.specs.Prelude.{◌≡◌, ◌<◌, ◌≤◌, ℕ, Bool, true, false, length, Contains, Some, None}
use Rattle.qmp_rules.specs.declared.rows.JobRecord.{JobRecord}
use Rattle.qmp_rules.specs.Queries.{bytes_of_node}
use Rattle.blk_history.specs.declared.event.Event.{Event}
use Rattle.blk_history.specs.declared.event.Event.TheVariants.{Reply, Start, Ready, End}
use Rattle.flat_machine.specs.State.{State, Begun, bytes_at_node}
use Rattle.flat_machine.specs.Begun.{begun_of}
use Rattle.flat_machine.specs.Jobs.{target_written}

-- what a job's start noted of its source, and of the target that it writes, is as long as the source
pub record HasBegun (s : State) (row : JobRecord) : Type 0 where
  pub begun : Begun
  pub found : begun_of s.begun row.number ≡ Some begun
  pub source : length begun.source ≡ bytes_of_node s.table row.source
  pub target : (node : ℕ) → target_written row ≡ Some node
      → length begun.target ≡ bytes_of_node s.table row.source

-- So it is with each job whose start stands in the history. Of a job whose start is still to come, which has a later number,
-- nothing was noted.
pub record HaveBegun (s : State) : Type 0 where
  pub begun : (row : JobRecord) → Contains s.table.jobs row → row.number < s.starts
      → HasBegun s row
  pub later : (number : ℕ) → s.starts ≤ number → begun_of s.begun number ≡ None

-- the disks that a start finds are as long as the source's row says
pub record FindsWhole (s : State) (row : JobRecord) : Type 0 where
  pub source : length (bytes_at_node s row.source) ≡ bytes_of_node s.table row.source
  pub target : (node : ℕ) → target_written row ≡ Some node
      → length (bytes_at_node s node) ≡ bytes_of_node s.table row.source

-- an entry by which no job begins, becomes ready or ends, and that is no command's
abbrev pub leaves_jobs : Event → Bool
leaves_jobs (Reply line given command text) = false
leaves_jobs (Start job) = false
leaves_jobs (Ready job) = false
leaves_jobs (End job outcome offset) = false
leaves_jobs e = true
