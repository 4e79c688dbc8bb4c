-- What a backup, a mirror or a commit needs of disks to begin, and what goes on behind its start.
use Rattle.std.specs.Prelude.{ℕ, List}
use Rattle.blk_history.specs.declared.event.Event.{Event}
use Rattle.block_jobs.specs.Work.{JobWork}
use Rattle.flat_machine.specs.Agreement.{Contents, ReadAsDisks}
use Rattle.flat_machine.specs.State.{State}
use Rattle.job_progress.specs.Belonging.{AreWorksOf}
use Rattle.job_progress.specs.Going.{AreJobsAhead}
use Rattle.job_commands.specs.Granules.{GranulesStand}
use Rattle.job_commands.specs.Whole.{HaveRowSizes, DisksAreWhole}

-- They are as long as rows say, in the flat machine and as nodes read; nodes with a flat disk read as it; and granules stand.
pub record DisksStand (s : State) (c : Contents) : Type 0 where
  pub whole : DisksAreWhole s
  pub reads : HaveRowSizes s.table c.reads
  pub agree : ReadAsDisks s c
  pub granules : GranulesStand s.table s.dirty

-- each backup, mirror and commit has come as far as its work says, and works are those of the table
pub record CopiesGoOn (first : State) (h : List Event) (s : State) (reads : ℕ → List ℕ)
    (works : List JobWork) : Type 0 where
  pub ahead : AreJobsAhead first h s reads works
  pub works_of : AreWorksOf s.table works
