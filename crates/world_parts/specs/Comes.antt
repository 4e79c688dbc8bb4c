-- Worlds that come of an opening.
use Rattle.std.specs.Prelude.{◌≡◌, ◌≤◌, true, is_some}
use Rattle.flat_machine.specs.State.{State}
use Rattle.flat_machine.specs.Machine.{replay}
use Rattle.flat_machine.specs.Legal.{IsAtRest}
use Rattle.flat_machine.specs.Opening.{start}
use Rattle.flat_machine.specs.Comes.{ComesOf, guests_after, jobs_from}
use Rattle.flat_machine.specs.Final.{bytes_named}
use Rattle.flat_machine.specs.Agreement.{Agrees}
use Rattle.flat_machine.specs.Imaging.{ImagesAreSound, ShowsImages}
use Rattle.flat_machine.specs.Standing.{StandsAtRest}
use Rattle.flat_machine.specs.declared.opening.Opening.{Opening}
use Rattle.job_commands.specs.Granules.{GranulesStand}
use Rattle.world_parts.specs.Progress.{ended_in}
use Rattle.world_parts.specs.Coherent.{IsCoherent, AreJobsKept}
use Rattle.world_parts.specs.Face.{WorldSeen, contents_of, dirty_of, first_counts, counts_now, held}
use Rattle.world_parts.specs.Keeping.{AreRises, ShowsJobs, all_faults}
use Rattle.world_parts.specs.Tabling.{IsTableAfter}

-- ---- facts about one moment, each over the parts that it names

-- the table is the replay's, and no event is half made
pub record ShowsTable (s : State) (w : WorldSeen) : Type 0 where
  pub room_is : s.room ≡ w.room
  pub table_is : s.table ≡ w.table
  pub rest : IsAtRest s

-- so are the guests' rows and the actors that are done
pub record ShowsGuests (s : State) (w : WorldSeen) : Type 0 where
  pub guests_are : s.guests ≡ w.progress.guests
  pub ended_are : s.ended ≡ ended_in w.progress.log.events

-- Nodes with a flat disk read as it, left disks are what their drivers read, of sound images, and files that no command named
-- for writing are as they were.
abbrev pub ShowsContents : Opening → State → WorldSeen → Type 0
ShowsContents o s w = Agrees (bytes_named o.files) s (contents_of w)

-- What is said of images is so of the files that they are in, and what is dirty is what the world keeps as dirty.
pub record ShowsState (o : Opening) (s : State) (w : WorldSeen) : Type 0 where
  pub stands : StandsAtRest s
  pub dirty : s.dirty ≡ dirty_of w
  pub table : ShowsTable s w
  pub guests : ShowsGuests s w
  pub contents : ShowsContents o s w
  pub images : ShowsImages s (contents_of w)

-- ---- the whole

-- The guests are the opening's, their rows are what their own entries make of them, table and dirty granules are what the entries
-- make, granules are as their nodes' disks have them, the parts of the world belong together, the store's count hasn't fallen, and each fault that the history names or that a
-- job keeps is a rise of its own. Where the store tells its files, the history is one of that opening, what the world shows at this
-- moment is what the flat machine comes to by it, the image in the file of each qcow2 node is sound, and jobs have their names and are
-- as far as they are to be.
pub record Comes (o : Opening) (w : WorldSeen) : Type 0 where
  pub history : ComesOf o (is_some w.files) w.table.guests
      (first_counts w) (counts_now w) w.progress.log.events
  pub counted : w.first_faults ≤ w.faults
  pub requests : w.progress.guests ≡ guests_after o w.progress.log.events
  pub table : IsTableAfter o.guests w.progress.log.events w.table (dirty_of w)
  pub granules : GranulesStand w.table (dirty_of w)
  pub coherent : IsCoherent w.table w.nodes w.opened w.progress
  pub shows : is_some w.files ≡ true → ShowsState o (replay (start o) w.progress.log.events) w
  pub sound : is_some w.files ≡ true → ImagesAreSound w.table (held w)
  pub jobs : AreJobsKept w.table w.works w.progress.aside
  pub kept : AreRises (first_counts w) (counts_now w)
      (all_faults w.progress.log.events w.works)
  pub going : is_some w.files ≡ true → ShowsJobs o w.progress.log.events
      (replay (start o) w.progress.log.events) w
  pub names : is_some w.files ≡ true
      → w.progress.jobs ≡ jobs_from (start o) w.progress.log.events
