-- What the start and the end of a job do.
use Rattle.std.specs.Prelude.{ℕ, ◌+◌, ◌==◌, Bool, true, false, ◌&&◌, ◌||◌, not, if◌then◌else◌, List, [], ◌∷◌, ◌++◌, map, filter, Option, Some, None, option_and_then}
use Rattle.std.specs.List.{list_any}
use Rattle.blk_graph.specs.declared.kind.Kind.{Kind}
use Rattle.blk_graph.specs.declared.kind.Kind.TheVariants.{Protocol}
use Rattle.qmp_codec.specs.declared.event.JobKind.{JobKind}
use Rattle.qmp_codec.specs.declared.event.JobKind.TheVariants.{Stream, Commit, Mirror, Backup}
use Rattle.qmp_rules.specs.declared.rows.NodeRecord.{NodeRecord}
use Rattle.qmp_rules.specs.declared.rows.JobRecord.{JobRecord}
use Rattle.qmp_rules.specs.declared.rows.UsedBitmap.{UsedBitmap}
use Rattle.qmp_rules.specs.Table.{RunTable, node_by_id, job_at}
use Rattle.qmp_rules.specs.Chains.{is_listed}
use Rattle.flat_machine.specs.State.{State, Mapped, MapsNone, Unsure, Image, Dirty, Begun, Ending, bytes_at_node}
use Rattle.flat_machine.specs.Marking.{made_dirty, put_aside, is_dirty_of, dirty_at, where_dirty, where_recording}
use Rattle.flat_machine.specs.Changed.{forget_left, all_stepped}
use Rattle.qmp_rules.specs.declared.change.Change.{Change}
use Rattle.qmp_rules.specs.declared.change.JobOutcome.{JobOutcome}
use Rattle.qmp_rules.specs.declared.change.JobOutcome.TheVariants as outcome
use Rattle.qmp_rules.specs.Ends.{end_edits, ready_edits}
use Rattle.blk_history.specs.declared.entry.JobEnd.{JobEnd}
use Rattle.blk_history.specs.declared.entry.JobEnd.TheVariants.{Completed, Pivoted, Copied, Failed, Cancelled}
use Rattle.blk_history.specs.declared.entry.Cause.TheVariants.{Command}

-- ---- kinds of jobs and of ends

-- a commit is active where it has no overlay above its top; an overlay is held for reading
abbrev pub has_no_overlay : JobRecord → Bool
has_no_overlay row = not (list_any (λ id. true) row.read)

-- it can be ready, and then goes on until it is asked to end
abbrev pub can_be_ready : JobRecord → JobKind → Bool
can_be_ready row Mirror = true
can_be_ready row Commit = has_no_overlay row
can_be_ready row kind = false

-- it writes its target or base
abbrev pub writes_target : JobKind → Bool
writes_target Stream = false
writes_target kind = true

abbrev pub is_success : JobEnd → Bool
is_success Completed = true
is_success Pivoted = true
is_success Copied = true
is_success outcome = false

-- an end that ends the other members of its group: it failed, or a command cancelled it
abbrev pub is_cause : JobEnd → Bool
is_cause (Failed fault) = true
is_cause (Cancelled Command) = true
is_cause outcome = false

-- ---- starts

-- the target that a job writes
abbrev pub target_written : JobRecord → Option ℕ
target_written row = if writes_target row.kind then row.target else None

abbrev pub target_bytes : State → Option ℕ → List ℕ
target_bytes s None = []
target_bytes s (Some node) = bytes_at_node s node

abbrev pub granules_of : State → JobRecord → Option UsedBitmap → Option Dirty
granules_of s row None = None
granules_of s row (Some used) = dirty_at s.dirty row.source used.name

-- the disks as the job finds them
abbrev pub begin : State → JobRecord → Begun
begin s row = record {
  job = row.number;
  source = bytes_at_node s row.source;
  target = target_bytes s row.target;
  granules = granules_of s row row.bitmap;
}

-- a job holds these nodes, be it for reading: whether their images map a cluster isn't known any more
abbrev pub unsure : List ℕ → Image → Image
unsure nodes image =
    if is_listed image.node nodes then record image { mapped = blurred image.mapped } else image
  where
    blurred : Mapped → Mapped
    blurred MapsNone = Unsure
    blurred mapped = mapped

abbrev pub aside_by : ℕ → Option UsedBitmap → List Dirty → List Dirty
aside_by node None ds = ds
aside_by node (Some used) ds = where_dirty (is_dirty_of node used.name) put_aside ds

-- the bitmap that it copies by is put aside, and those of its target or base are wholly dirty
abbrev pub dirty_at_start : State → JobRecord → Option ℕ → List Dirty
dirty_at_start s row None = aside_by row.source row.bitmap s.dirty
dirty_at_start s row (Some node) =
    where_recording s.table node made_dirty (aside_by row.source row.bitmap s.dirty)

-- the target of a backup or mirror
abbrev pub copied_to : JobRecord → JobKind → Option ℕ
copied_to row Backup = row.target
copied_to row Mirror = row.target
copied_to row kind = None

-- the file of a target that is a `file` node
abbrev pub target_file : RunTable → Option NodeRecord → Option (List ℕ)
target_file t None = None
target_file t (Some row) = file_name row.kind
  where
    file_name : Kind → Option (List ℕ)
    file_name Protocol = row.filename
    file_name kind = None

abbrev pub unleft : Option (List ℕ) → State → State
unleft None s = s
unleft (Some name) s = forget_left name s

abbrev pub noted_start : State → JobRecord → State
noted_start s row = record s {
  begun = s.begun ++ begin s row ∷ [];
  images = map (unsure (row.held ++ row.read)) s.images;
  dirty = dirty_at_start s row (target_written row);
  starts = s.starts + 1;
}

-- The reply that made the job's row stands before: what is left here is what the job finds and holds.
abbrev pub started : State → Option JobRecord → State
started s None = s
started s (Some row) =
    unleft (target_file s.table (option_and_then (node_by_id s.table) (copied_to row row.kind)))
    (noted_start s row)

-- ---- ends

-- the outcome as the rules know it: why a job failed or was cancelled changes nothing
abbrev pub outcome_of : JobEnd → JobOutcome
outcome_of Completed = outcome.Completed
outcome_of Pivoted = outcome.Pivoted
outcome_of Copied = outcome.Copied
outcome_of (Failed fault) = outcome.Stopped
outcome_of (Cancelled cause) = outcome.Stopped

-- ---- groups

abbrev pub is_number : ℕ → Option ℕ → Bool
is_number n None = false
is_number n (Some m) = m == n

abbrev pub in_group : ℕ → JobRecord → Bool
in_group group row = is_number group row.group

-- other members are in the table
abbrev pub has_others : RunTable → ℕ → ℕ → Bool
has_others t group job = list_any (λ row. in_group group row && not (row.number == job)) t.jobs

abbrev pub had_cause : Option Ending → Bool
had_cause None = false
had_cause (Some ending) = ending.has_cause

-- the group whose other members end next
abbrev pub ending_after : State → ℕ → JobEnd → Option ℕ → Option Ending
ending_after s job outcome None = None
ending_after s job outcome (Some group) =
    if has_others s.table group job
    then Some (record {
      group = group;
      is_completed = is_success outcome;
      has_cause = had_cause s.ending || is_cause outcome;
    })
    else None

-- the changes of an end, in the table where the job is
abbrev pub changes_at_end : State → JobRecord → JobEnd → List Change
changes_at_end s row why = end_edits s.table row (outcome_of why)

abbrev pub noted_end : State → JobRecord → JobEnd → State
noted_end s row why = record (all_stepped s (changes_at_end s row why)) {
  begun = filter (λ b. not (b.job == row.number)) s.begun;
  ending = ending_after s row.number why row.group;
}

abbrev pub ended : State → Option JobRecord → JobEnd → State
ended s None outcome = s
ended s (Some row) outcome = noted_end s row outcome

-- ---- ready

abbrev pub readied_by : State → Option JobRecord → State
readied_by s None = s
readied_by s (Some row) = all_stepped s (ready_edits row)

abbrev pub readied : ℕ → State → State
readied job s = readied_by s (job_at s.table job)
