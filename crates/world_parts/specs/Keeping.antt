-- What holds of the jobs of a world that comes of an opening.
use Rattle.std.specs.Prelude.{List, All, AllPairs, Option, Some, None, ◌++◌}
use Rattle.std.specs.List.{filter_map}
use Rattle.blk_base.specs.declared.fault.Fault.{Fault}
use Rattle.blk_base.specs.declared.fault.Fault.TheVariants as faults
use Rattle.blk_base.specs.declared.fault.FaultAt.{FaultAt}
use Rattle.blk_base.specs.declared.fault.FaultFrom.TheVariants.{Dev}
use Rattle.block_jobs.specs.Work.{JobWork}
use Rattle.blk_history.specs.declared.event.Event.{Event}
use Rattle.blk_nodes.specs.Contents.{disk_of}
use Rattle.flat_machine.specs.Licence.{Counts, Differ, IsBetweenCounts, fault_at, faults_of}
use Rattle.flat_machine.specs.Opening.{start}
use Rattle.flat_machine.specs.State.{State}
use Rattle.flat_machine.specs.declared.opening.Opening.{Opening}
use Rattle.job_commands.specs.Whole.{DisksAreWhole}
use Rattle.job_entries.specs.Found.{HaveBegun}
use Rattle.job_ends.specs.Images.{HeldAreUnsure}
use Rattle.job_progress.specs.Going.{AreJobsAhead}
use Rattle.job_tables.specs.TargetFiles.{TargetFilesStand}
use Rattle.world_parts.specs.Face.{WorldSeen}

-- ---- faults that jobs keep

-- the rise of a count that a fault names
abbrev pub rise_of : Option Fault → Option FaultAt
rise_of (Some (faults.Io dev count)) = Some (fault_at (Dev dev) count)
rise_of fault = None

abbrev pub faults_kept : List JobWork → List FaultAt
faults_kept works = filter_map (λ work. rise_of work.met) works

-- each is a rise, and no two are the same
pub record AreRises (opening now : Counts) (faults : List FaultAt) : Type 0 where
  pub rises : All (IsBetweenCounts opening now) faults
  pub once : AllPairs Differ faults

-- those that the history names, and those that jobs keep for their ends
abbrev pub all_faults : List Event → List JobWork → List FaultAt
all_faults h works = faults_of h ++ faults_kept works

-- ---- where the store tells its files

-- what their starts found, the files that they write, how far they have come, what isn't said of their images, and that disks are as
-- long as rows say, by a state that the entries lead to
pub record ShowsJobs (o : Opening) (h : List Event) (s : State) (w : WorldSeen) : Type 0 where
  pub begun : HaveBegun s
  pub files : TargetFilesStand s
  pub ahead : AreJobsAhead (start o) h s (disk_of w.nodes) w.works
  pub unsure : HeldAreUnsure s
  pub whole : DisksAreWhole s
