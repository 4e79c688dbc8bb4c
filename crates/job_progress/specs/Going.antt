-- How far jobs that copy a source to a target or a base have come, by what their starts found.
use Rattle.std.specs.Prelude.{◌≡◌, ℕ, ◌*◌, ◌/◌, ◌≤◌, ◌||◌, Bool, true, false, List, [], length, take, Contains, Option, Some, None}
use Rattle.blk_base.specs.Content.{bytes_at}
use Rattle.blk_base.specs.Pieces.{block_size}
use Rattle.blk_bits.specs.Granules.{contains}
use Rattle.blk_copy.specs.declared.transfers.Transfer.{Transfer}
use Rattle.blk_history.specs.declared.event.Event.{Event}
use Rattle.block_jobs.specs.Ahead.{IsAhead, is_owed}
use Rattle.block_jobs.specs.Work.{JobWork}
use Rattle.job_copies.specs.Settling.{HoldsGoal}
use Rattle.qmp_codec.specs.declared.event.JobKind.{JobKind}
use Rattle.qmp_codec.specs.declared.event.JobKind.TheVariants.{Commit, Mirror, Backup}
use Rattle.qmp_rules.specs.declared.rows.JobRecord.{JobRecord}
use Rattle.qmp_rules.specs.Ends.{settles_target}
use Rattle.qmp_rules.specs.Queries.{bytes_of_node}
use Rattle.flat_machine.specs.Begun.{begun_of, copy_bytes}
use Rattle.flat_machine.specs.Jobs.{writes_target}
use Rattle.flat_machine.specs.Machine.{replay}
use Rattle.flat_machine.specs.State.{State, Begun, Dirty, bytes_at_node}
use Rattle.job_works.specs.Works.{work_of}
use Rattle.job_progress.specs.Piecing.{follows}

-- ---- what is to come of it

-- these read blocks of their source, to write them to their target later; a commit copies each at once
abbrev pub copies_blocks : JobKind → Bool
copies_blocks Mirror = true
copies_blocks Backup = true
copies_blocks kind = false

-- what the target or base reads as once nothing is owed: what the start of a backup found, and the source of a mirror or a
-- commit as it is
abbrev pub goal_by : State → JobRecord → JobKind → List ℕ
goal_by s row Backup = copy_bytes (begun_of s.begun row.number)
goal_by s row kind = bytes_at_node s row.source

abbrev pub goal_of : State → JobRecord → List ℕ
goal_of s row = goal_by s row row.kind

-- a place of which the bitmap that is copied by held the granule
abbrev pub was_dirty : Option Dirty → ℕ → Bool
was_dirty None place = true
was_dirty (Some d) place = contains d.set (place / d.granularity)

-- By bitmap onto a target that had no flat disk, what the bitmap didn't hold means nothing.
abbrev pub is_due : JobRecord → Begun → ℕ → Bool
is_due row b place = settles_target row.bitmap || was_dirty b.granules place

-- ---- what its start found

-- disks of one size, which the source still has
pub record FoundDisks (s : State) (row : JobRecord) (b : Begun) : Type 0 where
  pub found : begun_of s.begun row.number ≡ Some b
  pub source : length b.source ≡ bytes_of_node s.table row.source
  pub target : length b.target ≡ bytes_of_node s.table row.source
  pub whole : length (bytes_at_node s row.source) ≡ bytes_of_node s.table row.source

-- ---- its copies in flight

-- a block of the source's disk behind so many entries of a history
abbrev pub taken_bytes : State → List Event → JobRecord → Transfer → List ℕ
taken_bytes first h row t =
    bytes_at (bytes_at_node (replay first (take t.position h)) row.source)
    (t.cluster * block_size) block_size

-- A copy was read behind some of the entries, and what was read has all that settling it makes good.
pub record IsCopyOpen (first : State) (h : List Event) (s : State) (row : JobRecord) (b : Begun)
    (work : JobWork) (t : Transfer) : Type 0 where
  pub past : t.position ≤ length h
  pub holds : HoldsGoal row.kind work t.cluster (is_due row b) (goal_of s row)
      (taken_bytes first h row t)

-- ---- how far it has come

-- While a place is owed the source has there what the target is to have, and where it isn't, the target has it. A mirror or
-- commit copies by no bitmap, and a commit has no copies in flight.
pub record IsJobAhead (first : State) (h : List Event) (s : State) (reads : ℕ → List ℕ)
    (row : JobRecord) (work : JobWork) : Type 0 where
  pub begun : Begun
  pub found_disks : FoundDisks s row begun
  pub target : ℕ
  pub is_target : row.target ≡ Some target
  pub ahead : IsAhead (is_due row begun) (is_owed row.kind work)
      (bytes_at_node s row.source) (goal_of s row) (reads target)
  pub copies : (t : Transfer) → Contains work.rows t → IsCopyOpen first h s row begun work t
  pub whole : follows row.kind ≡ true → row.bitmap ≡ None
  pub at_once : row.kind ≡ Commit → work.rows ≡ []

-- So it is with each backup, mirror and commit for which no call failed.
abbrev pub AreJobsAhead : State → List Event → State → (ℕ → List ℕ) → List JobWork → Type 0
AreJobsAhead first h s reads works =
    (row : JobRecord) (work : JobWork) → Contains s.table.jobs row
    → writes_target row.kind ≡ true → work_of works row.number ≡ Some work → work.met ≡ None
    → IsJobAhead first h s reads row work
