-- The transcript: one line for each entry.
use Rattle.std.specs.Prelude.{ℕ, zero, suc, List, [], ◌∷◌, ◌++◌, get_or, flat_map, codes, decimal, Option, Some, None, option_map}
use Rattle.std.specs.List.{join_with_byte}
use Rattle.serde_json.specs.Written.{compact_text}
use Rattle.blk_base.specs.Pieces.{Extent}
use Rattle.blk_base.specs.Written.{Written}
use Rattle.blk_base.specs.declared.fault.DevNo.{DevNo}
use Rattle.blk_base.specs.declared.fault.Fault.{Fault}
use Rattle.blk_base.specs.declared.fault.Fault.TheVariants as faults
use Rattle.blk_base.specs.declared.fault.Outcome.{Outcome}
use Rattle.blk_base.specs.declared.fault.Outcome.TheVariants.{Good, Torn, Io, NoSpace}
use Rattle.blk_runs.specs.Runs.{runs_text}
use Rattle.trace_codec.specs.declared.op.Op.{Op}
use Rattle.trace_codec.specs.declared.op.Op.TheVariants.{Read, Write, Zero, Flush, Discard}
use Rattle.qmp_codec.specs.declared.event.JobEvent.{JobEvent}
use Rattle.qmp_codec.specs.declared.event.EventName.{EventName}
use Rattle.qmp_codec.specs.declared.event.EventName.TheVariants as event
use Rattle.qmp_codec.specs.Events.{kind_text, event_data}
use Rattle.blk_history.specs.Names.{JobLine, RowNames, no_job}
use Rattle.blk_history.specs.declared.entry.Refused.{Refused}
use Rattle.blk_history.specs.declared.entry.Refused.TheVariants.{Range, ReadOnly}
use Rattle.blk_history.specs.declared.entry.Cause.{Cause}
use Rattle.blk_history.specs.declared.entry.Cause.TheVariants.{Command, Group, RunEnd}
use Rattle.blk_history.specs.declared.entry.JobEnd.{JobEnd}
use Rattle.blk_history.specs.declared.entry.JobEnd.TheVariants.{Completed, Pivoted, Copied, Failed, Cancelled}
use Rattle.blk_history.specs.declared.event.Event.{Event}
use Rattle.blk_history.specs.declared.event.Event.TheVariants.{Admit, Refuse, Piece, Retire, Reply, Reached, Start, Ready, End, Done}

-- words parted by single spaces, and a line feed
abbrev pub sentence : List ℕ → List (List ℕ) → List ℕ
sentence verb words = verb ++ flat_map (λ word. 32 ∷ word) words ++ 10 ∷ []

-- a request's name, and its span where it has one
abbrev pub named_span_words : List ℕ → Extent → List (List ℕ)
named_span_words name span = name ∷ decimal span.start ∷ decimal span.len ∷ []

abbrev pub op_words : Op → List (List ℕ)
op_words (Read span) = named_span_words (codes "read") span
op_words (Write span payload) = named_span_words (codes "write") span
op_words (Zero span) = named_span_words (codes "zero") span
op_words Flush = codes "flush" ∷ []
op_words (Discard span) = named_span_words (codes "discard") span

abbrev pub refused_word : Refused → List ℕ
refused_word Range = codes "range"
refused_word ReadOnly = codes "readonly"

abbrev pub dev_word : DevNo → List ℕ
dev_word dev = codes "dev" ++ decimal dev.0

-- a good piece of a read shows its bytes as runs
abbrev pub good_words : List ℕ → List (List ℕ)
good_words [] = codes "ok" ∷ []
good_words (byte ∷ bytes) = codes "ok" ∷ runs_text (byte ∷ bytes) ∷ []

abbrev pub outcome_words : Outcome → List ℕ → List (List ℕ)
outcome_words Good got = good_words got
outcome_words (Torn done dev count) got =
    codes "torn" ∷ decimal done ∷ dev_word dev ∷ decimal count ∷ []
outcome_words (Io dev count) got = codes "io" ∷ dev_word dev ∷ decimal count ∷ []
outcome_words (NoSpace dev) got = codes "nospace" ∷ dev_word dev ∷ []

-- ---- jobs

abbrev pub fault_words : Fault → List (List ℕ)
fault_words (faults.Io dev count) = codes "io" ∷ dev_word dev ∷ decimal count ∷ []
fault_words (faults.NoSpace dev) = codes "nospace" ∷ dev_word dev ∷ []

abbrev pub cause_word : Cause → List ℕ
cause_word Command = codes "command"
cause_word Group = codes "group"
cause_word RunEnd = codes "run"

abbrev pub result_words : JobEnd → List (List ℕ)
result_words Completed = codes "done" ∷ []
result_words Pivoted = codes "pivot" ∷ []
result_words Copied = codes "copied" ∷ []
result_words (Failed fault) = fault_words fault
result_words (Cancelled cause) = codes "cancelled" ∷ cause_word cause ∷ []

-- a job that failed is told as completed, with its fault
abbrev pub event_name : JobEnd → EventName
event_name (Cancelled cause) = event.Cancelled
event_name outcome = event.Completed

abbrev pub plain_text : List ℕ → Written
plain_text bytes = record { bytes = bytes; spare = 0 }

abbrev pub fault_of_end : JobEnd → Option Fault
fault_of_end (Failed fault) = Some fault
fault_of_end outcome = None

abbrev pub fault_text : Fault → List ℕ
fault_text fault = join_with_byte 32 (fault_words fault)

-- what a job tells
abbrev pub told_by_job : JobLine → EventName → Option Fault → ℕ → JobEvent
told_by_job job name fault offset = record {
  name = name;
  device = plain_text job.id;
  error = option_map (λ f. plain_text (fault_text f)) fault;
  len = job.size;
  offset = offset;
  kind = job.kind;
}

abbrev pub event_line : JobLine → EventName → Option Fault → ℕ → List ℕ
event_line job name fault offset = compact_text (event_data (told_by_job job name fault offset))

-- ---- lines

abbrev pub guest_word : RowNames → ℕ → List ℕ
guest_word names g = get_or names.guests g []

abbrev pub job_line : RowNames → ℕ → JobLine
job_line names job = get_or names.jobs job no_job

-- the script is actor 0, and guest g is actor g + 1
abbrev pub actor_word : RowNames → ℕ → List ℕ
actor_word names zero = codes "script"
actor_word names (suc g) = guest_word names g

abbrev pub start_words : JobLine → List (List ℕ)
start_words job = job.id ∷ kind_text job.kind ∷ []

-- once it is ready it has copied all
abbrev pub ready_words : JobLine → List (List ℕ)
ready_words job = job.id ∷ event_line job event.Ready None job.size ∷ []

abbrev pub end_words : JobLine → JobEnd → ℕ → List (List ℕ)
end_words job outcome offset =
    (job.id ∷ result_words outcome)
    ++ event_line job (event_name outcome) (fault_of_end outcome) offset ∷ []

abbrev pub entry_line : RowNames → Event → List ℕ
entry_line names (Admit g r op) =
    sentence (codes "admit") (guest_word names g ∷ decimal r ∷ op_words op)
entry_line names (Refuse g r op why) =
    sentence (codes "refuse")
    ((guest_word names g ∷ decimal r ∷ op_words op) ++ refused_word why ∷ [])
entry_line names (Piece g r k outcome got) =
    sentence (codes "piece")
    (guest_word names g ∷ decimal r ∷ decimal k ∷ outcome_words outcome got)
entry_line names (Retire g r) = sentence (codes "retire") (guest_word names g ∷ decimal r ∷ [])
entry_line names (Reply line given command text) =
    sentence (codes "reply") (decimal line ∷ text ∷ [])
entry_line names (Reached line what) = sentence (codes "reached") (decimal line ∷ [])
entry_line names (Start job) = sentence (codes "start") (start_words (job_line names job))
entry_line names (Ready job) = sentence (codes "ready") (ready_words (job_line names job))
entry_line names (End job outcome offset) =
    sentence (codes "end") (end_words (job_line names job) outcome offset)
entry_line names (Done actor) = sentence (codes "done") (actor_word names actor ∷ [])

-- all lines, in order
unfoldable pub transcript : RowNames → List Event → List ℕ
transcript names h = flat_map (entry_line names) h
