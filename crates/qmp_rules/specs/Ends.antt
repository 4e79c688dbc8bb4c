-- The changes that the end of a job makes, and that it becomes ready.
use Rattle.std.specs.Prelude.{ℕ, Bool, true, false, List, [], ◌∷◌, ◌++◌, slice_get, Option, Some, None, option_and_then}
use Rattle.blk_graph.specs.declared.edge.Role.TheVariants.{File}
use Rattle.qmp_codec.specs.declared.event.JobKind.{JobKind}
use Rattle.qmp_codec.specs.declared.event.JobKind.TheVariants.{Stream, Commit, Mirror, Backup}
use Rattle.qmp_codec.specs.declared.words.BitmapMode.{BitmapMode}
use Rattle.qmp_codec.specs.declared.words.BitmapMode.TheVariants.{OnSuccess}
use Rattle.qmp_rules.specs.declared.change.Change.{Change}
use Rattle.qmp_rules.specs.declared.change.Change.TheVariants.{EndJob, PullFilter, Move, Rebase, Settle, Unsettle, MakeReadOnly, ReadyJob}
use Rattle.qmp_rules.specs.declared.change.NewDisk.{NewDisk}
use Rattle.qmp_rules.specs.declared.change.NewDisk.TheVariants.{OfNode, OfStart}
use Rattle.qmp_rules.specs.declared.change.JobOutcome.{JobOutcome}
use Rattle.qmp_rules.specs.declared.change.JobOutcome.TheVariants.{Completed, Pivoted, Copied, Stopped}
use Rattle.qmp_rules.specs.declared.rows.JobRecord.{JobRecord}
use Rattle.qmp_rules.specs.declared.rows.UsedBitmap.{UsedBitmap}
use Rattle.qmp_rules.specs.Table.{RunTable, child}

-- without error
abbrev pub is_done : JobOutcome → Bool
is_done Stopped = false
is_done outcome = true

-- ---- the bitmap: what stands aside is dropped after a success where that is its mode

abbrev pub drops_by : JobOutcome → BitmapMode → Bool
drops_by outcome OnSuccess = is_done outcome
drops_by outcome mode = false

abbrev pub drops_aside : JobOutcome → Option UsedBitmap → Bool
drops_aside outcome None = false
drops_aside outcome (Some used) = drops_by outcome used.mode

-- ---- the filter

abbrev pub filter_gone : Option ℕ → List Change
filter_gone None = []
filter_gone (Some filter) = PullFilter filter ∷ []

-- ---- moves

-- All parents of the source but jobs use the target. Its filter, which is gone, stands for the one parent that stays.
abbrev pub parents_to : ℕ → Option ℕ → Option ℕ → List Change
parents_to source (Some filter) (Some target) = Move source target filter ∷ []
parents_to source filter target = []

-- the overlay over the top of an inner commit has another backing node
abbrev pub overlay_to : Option ℕ → Option ℕ → List Change
overlay_to None base = []
overlay_to (Some overlay) base = Rebase overlay base ∷ []

abbrev pub moves : JobRecord → JobKind → JobOutcome → List Change
moves row Stream Completed = Rebase row.source row.target ∷ []
moves row Commit Completed = overlay_to (slice_get row.read 0) row.target
moves row Commit Pivoted = parents_to row.source row.filter row.target
moves row Mirror Pivoted = parents_to row.source row.filter row.target
moves row kind outcome = []

-- ---- flat disks

-- a backup by bitmap onto a target that was unsettled leaves it so
abbrev pub settles_target : Option UsedBitmap → Bool
settles_target None = true
settles_target (Some used) = used.onto_settled

abbrev pub settle_if : Bool → Option ℕ → NewDisk → List Change
settle_if true (Some target) disk = Settle target disk ∷ []
settle_if so target disk = []

-- A backup leaves what its start found; a mirror and a commit what the source reads as.
abbrev pub settled_by : JobRecord → JobKind → List Change
settled_by row Backup = settle_if (settles_target row.bitmap) row.target (OfStart row.number)
settled_by row Mirror = settle_if true row.target (OfNode row.source)
settled_by row Commit = settle_if true row.target (OfNode row.source)
settled_by row Stream = []

-- after a pivot of a commit its top has no flat disk
abbrev pub top_lost : JobRecord → JobKind → JobOutcome → List Change
top_lost row Commit Pivoted = Unsettle row.source ∷ []
top_lost row kind outcome = []

-- ---- what may not be written any more

abbrev pub read_only_if : Bool → Option ℕ → List Change
read_only_if true (Some id) = MakeReadOnly id ∷ []
read_only_if so id = []

-- What a commit made writable stays so after a pivot alone. The base comes first: while it may be written its file may.
abbrev pub given_back_to : RunTable → JobRecord → JobOutcome → List Change
given_back_to t row Pivoted = []
given_back_to t row outcome =
    read_only_if row.made_writable.base row.target
    ++ read_only_if row.made_writable.file (option_and_then (λ base. child t base File) row.target)

-- ---- all of it

abbrev pub done_edits : JobRecord → JobOutcome → List Change
done_edits row Stopped = []
done_edits row outcome =
    moves row row.kind outcome ++ settled_by row row.kind ++ top_lost row row.kind outcome

-- What the end of a job makes of the table: its row, its edges and its filter go, its moves are made, and disks are settled.
unfoldable pub end_edits : RunTable → JobRecord → JobOutcome → List Change
end_edits t row outcome =
    EndJob row.number row.slot (drops_aside outcome row.bitmap)
    ∷ filter_gone row.filter ++ done_edits row outcome ++ given_back_to t row outcome

abbrev pub ready_edits : JobRecord → List Change
ready_edits row = ReadyJob row.number ∷ []

-- ---- changes that take no memory: those of events

abbrev pub is_of_event : Change → Bool
is_of_event (ReadyJob number) = true
is_of_event (EndJob number slot drops) = true
is_of_event (PullFilter filter) = true
is_of_event (Move from to but) = true
is_of_event (Rebase node backing) = true
is_of_event (Settle node disk) = true
is_of_event (Unsettle id) = true
is_of_event (MakeReadOnly id) = true
is_of_event _ = false
