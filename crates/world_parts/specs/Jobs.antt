-- What jobs do to a world: they begin, copy and end.
use Rattle.std.specs.Prelude.{◌≡◌, ◌⊎◌, ◌≤◌, ℕ, ◌+◌, Bool, true, false, List, [], ◌∷◌, ◌++◌, length, Option, Some, None, IfSome, is_some, option_map, Result}
use Rattle.std.specs.List.{list_any}
use Rattle.blk_base.specs.Pieces.{Extent}
use Rattle.blk_base.specs.declared.fault.Fault.{Fault}
use Rattle.blk_base.specs.declared.fault.Outcome.TheVariants.{NoSpace}
use Rattle.blk_bitmaps.specs.Calls.{rows_after_call, Freeze, NoteAll, Release}
use Rattle.blk_bitmaps.specs.declared.row.Bitmap.{Bitmap}
use Rattle.blk_copy.specs.declared.transfers.Transfer.{Transfer}
use Rattle.trace_codec.specs.declared.op.Op.{Op}
use Rattle.blk_history.specs.Fold.{With}
use Rattle.blk_history.specs.declared.entry.JobEnd.{JobEnd}
use Rattle.blk_history.specs.declared.event.Event.TheVariants.{End, Ready}
use Rattle.blk_nodes.specs.Adding.{with_node_row, filtering_row}
use Rattle.blk_nodes.specs.Contents.{disk_of}
use Rattle.blk_nodes.specs.Joined.{IsJoined}
use Rattle.blk_nodes.specs.Nodes.{Nodes, AreTold, filter_kind, row_at}
use Rattle.blk_nodes.specs.Rewiring.{rewired, AreReadings}
use Rattle.blk_nodes.specs.Writing.{IsApartFrom, LeavesNodes, MayWriteThrough}
use Rattle.blk_nodes.specs.declared.row.FilterKind.{FilterKind}
use Rattle.node_copies.specs.Putting.{PutsRuns}
use Rattle.node_copies.specs.Sectors.{runs_of}
use Rattle.block_jobs.specs.Work.{JobWork}
use Rattle.qmp_codec.specs.declared.event.JobKind.TheVariants.{Backup}
use Rattle.qmp_rules.specs.Changes.{all_changed}
use Rattle.qmp_rules.specs.Ends.{end_edits, drops_aside, ready_edits}
use Rattle.qmp_rules.specs.Table.{RunTable, job_at, kinds_of, node_by_id}
use Rattle.qmp_rules.specs.declared.rows.JobRecord.{JobRecord}
use Rattle.qmp_rules.specs.declared.rows.NodeRecord.{NodeRecord}
use Rattle.qmp_rules.specs.declared.rows.UsedBitmap.{UsedBitmap}
use Rattle.flat_machine.specs.Comes.{job_line_of}
use Rattle.flat_machine.specs.EventLicence.{Deed, PieceOn, Take, Settle, EndsAsMet, MayMeet}
use Rattle.flat_machine.specs.Jobs.{can_be_ready, is_success, outcome_of, target_written}
use Rattle.flat_machine.specs.Legal.{MayEnd, offset_at_end}
use Rattle.flat_machine.specs.Marks.{AreCalm, after_end, end_marks}
use Rattle.flat_machine.specs.declared.opening.Opening.{Opening}
use Rattle.job_progress.specs.Beginning.{work_begun}
use Rattle.job_works.specs.Steps.{Guarded, Settled, Taken}
use Rattle.job_works.specs.Works.{ChangesWork, without_work, work_of}
use Rattle.world_parts.specs.Coherent.{AreNodesOf, entries_owed}
use Rattle.world_parts.specs.Comes.{Comes}
use Rattle.world_parts.specs.Counting.{RunsOn, HidesNoFault, counts_within, seen_sources}
use Rattle.world_parts.specs.Face.{WorldSeen, counts_now, seen_state}
use Rattle.world_parts.specs.Keeping.{rise_of}
use Rattle.world_parts.specs.Looking.{HasCalled}
use Rattle.world_parts.specs.Progress.{with_start, with_job_entry}

-- ---- a job's filter in the nodes

-- It is put over the source: a node more, and then the nodes have the table's kinds and edges.
pub record PutsFilter (u : RunTable) (row : JobRecord) (nodes now : Nodes) : Type 0 where
  pub node : NodeRecord
  pub kind : FilterKind
  pub there : With row.filter (λ filter. node_by_id u filter ≡ Some node)
  pub of_kind : node.kind ≡ filter_kind kind
  pub are : now ≡ rewired (kinds_of u.nodes) u.edges
      (with_node_row nodes node.id node.name (filtering_row kind node.size node.read_only))
  pub reads : (reads : ℕ → List ℕ) → AreReadings now reads → (n : ℕ) → disk_of now n ≡ reads n

-- It goes, and the nodes have the table's kinds and edges; devices stay.
pub record PullsFilter (u : RunTable) (row : JobRecord) (nodes now : Nodes) : Type 0 where
  pub alike : AreNodesOf u now
  pub devices : now.devices ≡ nodes.devices
  pub drivers : (n : ℕ) → (row.filter ≡ Some n → ⊥)
      → option_map (λ r. r.driver) (row_at now n) ≡ option_map (λ r. r.driver) (row_at nodes n)
  pub reads : (reads : ℕ → List ℕ) → AreReadings now reads → (n : ℕ) → disk_of now n ≡ reads n

-- ---- bitmaps

-- the one that it copies by is put aside for it
abbrev pub frozen_for : JobRecord → Option UsedBitmap → List Bitmap → List Bitmap
frozen_for row None rows = rows
frozen_for row (Some used) rows = rows_after_call rows (Freeze row.source used.name row.number)

-- and those of the node that it writes are wholly dirty
abbrev pub filled_for : Option ℕ → List Bitmap → List Bitmap
filled_for None rows = rows
filled_for (Some node) rows = rows_after_call rows (NoteAll node)

abbrev pub bitmaps_begun : JobRecord → List Bitmap → List Bitmap
bitmaps_begun row rows = filled_for (target_written row) (frozen_for row row.bitmap rows)

abbrev pub bitmaps_ended : JobRecord → JobEnd → List Bitmap → List Bitmap
bitmaps_ended row why rows =
    rows_after_call rows (Release row.number (drops_aside (outcome_of why) row.bitmap))

-- ---- starts

-- The entry of a start, behind the reply to its command: the job has its work, and its bitmaps are put aside.
pub record BeginsJob (w v : WorldSeen) (row : JobRecord) : Type 0 where
  pub there : job_at w.table row.number ≡ Some row
  pub kept : v ≡ record w {
    bitmaps = bitmaps_begun row w.bitmaps;
    works = w.works ++ work_begun (seen_state w) row ∷ [];
    progress = with_start row.number (job_line_of (seen_state w) (Some row)) w.progress;
  }

-- behind a reply to which the table was this before
pub record BeginsNone (t : RunTable) (w v : WorldSeen) : Type 0 where
  pub started : w.table.started ≡ t.started
  pub kept : v ≡ w

pub record BeginsOne (t : RunTable) (w v : WorldSeen) : Type 0 where
  pub row : JobRecord
  pub number : row.number ≡ t.started
  pub started : w.table.started ≡ t.started + 1
  pub begins : BeginsJob w v row

-- ---- copies, of which no entry tells

-- In what was done for a job no call failed, or one did, and that is the job's first fault.
pub record MeetsNone (w v : WorldSeen) (job : ℕ) : Type 0 where
  pub same : (seen_sources v).met_by job ≡ (seen_sources w).met_by job
  pub hides : HidesNoFault w v None

pub record MeetsFault (w v : WorldSeen) (deed : Deed) (passes : ℕ → Type 0)
    (row : JobRecord) : Type 0 where
  pub fault : Fault
  pub met : (seen_sources v).met_by row.number ≡ Some fault
  pub may : MayMeet w.table (seen_sources w) deed (counts_within w v) (counts_now v) passes row
      fault
  pub fits : IfSome (rise_of (Some fault)) (λ rise. rise.count ≤ 18446744073709551615)
  pub hides : HidesNoFault w v (rise_of (Some fault))

-- Runs of bytes were put to a node, one of which would have ended above a device's capacity. Until then counts alone had changed.
pub record CopyPasses (nodes : Nodes) (target dev : ℕ) : Type 0 where
  pub between : Nodes
  pub now : Nodes
  pub called : HasCalled nodes between
  pub block : Extent
  pub sectors : ℕ
  pub bytes : List ℕ
  pub puts : PutsRuns (runs_of block sectors) block between now target bytes (NoSpace (record { 0 = dev }))

-- nodes and works alone change
pub record CopiesFor (w v : WorldSeen) (deed : Deed) (passes : ℕ → Type 0)
    (row : JobRecord) : Type 0 where
  pub there : job_at w.table row.number ≡ Some row
  pub kept : v ≡ record w { nodes = v.nodes; works = v.works }
  pub runs : RunsOn w v
  pub told : AreTold w.nodes.devices → AreTold v.nodes.devices
  pub joined : IsJoined v.nodes
  pub meets : MeetsNone w v row.number ⊎ MeetsFault w v deed passes row

-- what a job writes of its target leaves the nodes that don't lead to the target's file
pub record WritesTarget (nodes now : Nodes) (target : ℕ) : Type 0 where
  pub others : (other : ℕ) → IsApartFrom nodes other target
      → disk_of now other ≡ disk_of nodes other
  pub leaves : LeavesNodes nodes now target
  pub may : MayWriteThrough nodes target

-- What is left of a backup's block is copied before a guest's write on its drive.
pub record GuardsBlock (w v : WorldSeen) (drive : ℕ) (op : Op) (row : JobRecord)
    (target block : ℕ) : Type 0 where
  pub kind : row.kind ≡ Backup
  pub copies : CopiesFor w v (PieceOn drive op) (CopyPasses w.nodes target) row
  pub writes : WritesTarget w.nodes v.nodes target
  pub target_is : row.target ≡ Some target
  pub guards : ChangesWork row.number (Guarded w.nodes v.nodes row.source target block)
      w.works v.works

-- The next block is read.
pub record TakesBlock (w v : WorldSeen) (row : JobRecord) (buffer : List ℕ)
    (answer : Result (Option Transfer) Fault) : Type 0 where
  pub copies : CopiesFor w v (Take row.slot) (λ dev. ⊥) row
  pub disks : (other : ℕ) → disk_of v.nodes other ≡ disk_of w.nodes other
  pub called : HasCalled w.nodes v.nodes
  pub takes : ChangesWork row.number
      (Taken row.kind w.nodes v.nodes row.source (length w.progress.log.events) buffer answer)
      w.works v.works

-- A block that was read is written.
pub record SettlesBlock (w v : WorldSeen) (row : JobRecord) (target : ℕ) (t : Transfer)
    (bytes : List ℕ) (answer : Bool) : Type 0 where
  pub copies : CopiesFor w v (Settle row.number) (CopyPasses w.nodes target) row
  pub writes : WritesTarget w.nodes v.nodes target
  pub target_is : row.target ≡ Some target
  pub settles : ChangesWork row.number (Settled row.kind w.nodes v.nodes target t bytes answer)
      w.works v.works

-- ---- readiness and ends

-- nothing is left to copy, and no copy is in flight
pub record HasCopiedAll (work : JobWork) : Type 0 where
  pub left : list_any (λ part. part) work.left ≡ false
  pub rows : work.rows ≡ []

-- the target reads as the source
abbrev pub ReadsAsSource : WorldSeen → JobRecord → Type 0
ReadsAsSource w row =
    (target : ℕ) → row.target ≡ Some target
    → disk_of w.nodes target ≡ disk_of w.nodes row.source

-- A job is ready once nothing is left: where the store tells its files, its target reads as its source then.
pub record ReadiesJob (w v : WorldSeen) (row : JobRecord) : Type 0 where
  pub there : job_at w.table row.number ≡ Some row
  pub can : can_be_ready row row.kind ≡ true
  pub yet : row.is_ready ≡ false
  pub made : With (work_of w.works row.number) HasCopiedAll
  pub alike : (o : Opening) → Comes o w → is_some w.files ≡ true → ReadsAsSource v row
  pub kept : v ≡ record w {
    table = all_changed w.table (ready_edits row);
    progress = with_job_entry 1 (Ready row.number) w.progress;
  }

-- A job ends as its turn says, once nothing is left where it ends without error. No request is in flight on a disk that its end
-- marks, and it holds none from then on.
pub record EndsJob (w v : WorldSeen) (row : JobRecord) (why : JobEnd) (offset : ℕ) : Type 0
  where
    pub there : job_at w.table row.number ≡ Some row
    pub cause : MayEnd (seen_state w) row why
    pub met : EndsAsMet (seen_sources w) row.number why
    pub made : is_success why ≡ true → With (work_of w.works row.number) HasCopiedAll
    pub progress : offset ≡ offset_at_end (seen_state w) row why
    pub calm : AreCalm w.table w.progress.guests (end_marks row row.kind why)
    pub pulls : PullsFilter v.table row w.nodes v.nodes
    pub kept : v ≡ record w {
      nodes = v.nodes;
      table = all_changed w.table (end_edits w.table row (outcome_of why));
      bitmaps = bitmaps_ended row why w.bitmaps;
      works = without_work row.number w.works;
      drains = after_end row.number w.drains;
      progress = with_job_entry (entries_owed row) (End row.number why offset) w.progress;
    }
