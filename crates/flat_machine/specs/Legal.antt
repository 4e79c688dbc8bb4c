-- When an entry fits the state before it.
use Rattle.std.specs.Prelude.{◌≡◌, ◌≢◌, ◌⊎◌, ℕ, zero, suc, ◌+◌, ◌<◌, ◌≤◌, ◌&&◌, ◌||◌, if◌then◌else◌, Bool, IsTrue, true, false, List, length, Contains, Option, Some, None, IsSome, option_and_then}
use Rattle.blk_base.specs.Pieces.{end_of}
use Rattle.trace_codec.specs.declared.op.Op.{Op}
use Rattle.trace_codec.specs.declared.awaiting.Await.{Await}
use Rattle.trace_codec.specs.declared.awaiting.Await.TheVariants as await
use Rattle.qmp_codec.specs.declared.event.JobKind.TheVariants.{Mirror}
use Rattle.qmp_rules.specs.declared.rows.AskedEnd.TheVariants as asked
use Rattle.qmp_rules.specs.declared.rows.JobRecord.{JobRecord}
use Rattle.qmp_rules.specs.Table.{device_by_number, job_at, job_named}
use Rattle.qmp_rules.specs.Queries.{bytes_of_node}
use Rattle.blk_history.specs.Fold.{Each, With}
use Rattle.blk_history.specs.Disk.{span_of, is_write}
use Rattle.flat_machine.specs.State.{State, Guest, Ending, guest_at, flat_disk_of, disk_of_guest}
use Rattle.blk_history.specs.Machine.{Flight}
use Rattle.blk_history.specs.Legal.{IsNextPiece, IsFlightOver}
use Rattle.flat_machine.specs.Jobs.{can_be_ready, is_success, is_cause, has_others, had_cause}
use Rattle.flat_machine.specs.Replies.{IsAnswer}
use Rattle.flat_machine.specs.Machine.{after}
use Rattle.blk_history.specs.declared.entry.Refused.{Refused}
use Rattle.blk_history.specs.declared.entry.Refused.TheVariants.{Range, ReadOnly}
use Rattle.blk_history.specs.declared.entry.Cause.TheVariants.{Command, Group, RunEnd}
use Rattle.blk_history.specs.declared.entry.JobEnd.{JobEnd}
use Rattle.blk_history.specs.declared.entry.JobEnd.TheVariants.{Completed, Pivoted, Copied, Failed, Cancelled}
use Rattle.blk_history.specs.declared.event.Event.{Event}
use Rattle.blk_history.specs.declared.event.Event.TheVariants.{Admit, Refuse, Piece, Retire, Reply, Reached, Start, Ready, End, Done}

-- ---- requests

-- the span ends within a disk of so many bytes
abbrev pub IsInside : Op → ℕ → Type 0
IsInside op size = end_of (span_of op) ≤ size

-- a guest that may only read asks for what needs one that may write
abbrev pub IsForbidden : Op → Bool → Type 0
IsForbidden op read_only = IsTrue (read_only && is_write op)

-- why a request is refused: its span first; a flush, which speaks of no bytes and writes none, never is
abbrev pub IsRefusedFor : Op → Bool → ℕ → Refused → Type 0
IsRefusedFor op read_only size Range = size < end_of (span_of op)
IsRefusedFor op read_only size ReadOnly = IsInside op size × IsForbidden op read_only

pub record CanAdmit (op : Op) (read_only : Bool) (size : ℕ) : Type 0 where
  pub inside : IsInside op size
  pub allowed : IsForbidden op read_only → ⊥

-- the guest has no request in flight, and this is the number of its next
pub record IsNext (row : Guest) (r : ℕ) : Type 0 where
  pub idle : row.flight ≡ None
  pub number : r ≡ row.done

-- the actor is not done
abbrev pub IsNotDone : State → ℕ → Type 0
IsNotDone s actor = Contains s.ended actor → ⊥

-- the next request of a guest that is attached, which is judged by whether it is read-only and by its disk's size
abbrev pub IsNextJudged : State → ℕ → ℕ → (Bool → ℕ → Type 0) → Type 0
IsNextJudged s g r P = IsNotDone s (g + 1) × With (guest_at s g) (λ row. IsNext row r)
    × With (device_by_number s.table g)
    (λ device. With (disk_of_guest s.table g)
    (λ node. P device.read_only (bytes_of_node s.table node)))

abbrev pub guest_disk : State → ℕ → Option (List ℕ)
guest_disk s g = option_and_then (flat_disk_of s) (disk_of_guest s.table g)

-- that holds of the guest's request in flight, which has this number
abbrev pub IsInFlight : State → ℕ → ℕ → (Flight → Type 0) → Type 0
IsInFlight s g r P = With (guest_at s g) (λ row. (r ≡ row.done) × With row.flight P)

-- ---- awaits

-- a guest has so many requests that were retired or refused; a job is ready; a job is not there
abbrev pub IsMet : State → Await (List ℕ) → Type 0
IsMet s (await.Guest g requests) = With (guest_at s g) (λ row. requests ≤ row.done)
IsMet s (await.Ready id) = With (job_named s.table id) (λ row. row.is_ready ≡ true)
IsMet s (await.Ended id) = job_named s.table id ≡ None

-- ---- ends of jobs

-- script and guests are done
abbrev pub AllDone : State → Type 0
AllDone s = (actor : ℕ) → actor ≤ length s.guests → Contains s.ended actor

abbrev pub MayEnd : State → JobRecord → JobEnd → Type 0
MayEnd s row Completed = (can_be_ready row row.kind ≡ false) × (row.asked ≢ asked.Stop)
MayEnd s row Pivoted =
    (can_be_ready row row.kind ≡ true) × (row.is_ready ≡ true) × (row.asked ≡ asked.Complete)
MayEnd s row Copied = (row.kind ≡ Mirror) × (row.is_ready ≡ true) × (row.asked ≡ asked.Leave)
MayEnd s row (Failed fault) = Unit {0}
MayEnd s row (Cancelled Command) = row.asked ≡ asked.Stop
MayEnd s row (Cancelled Group) = IsSome row.group
MayEnd s row (Cancelled RunEnd) = AllDone s × (row.is_ready ≡ true) × (row.asked ≡ asked.Nothing)

-- the source's size once the job was ready and at an end without error, and else 0
abbrev pub offset_at_end : State → JobRecord → JobEnd → ℕ
offset_at_end s row outcome =
    if row.is_ready || is_success outcome then bytes_of_node s.table row.source else 0

-- members of a group end without error side by side or not at all
abbrev pub IsLike : Option Ending → JobEnd → Type 0
IsLike None outcome = Unit {0}
IsLike (Some ending) outcome = is_success outcome ≡ ending.is_completed

-- the last of them to end: where not all ended without error, one of them failed or was cancelled by a command
abbrev pub HasReason : State → ℕ → ℕ → JobEnd → Type 0
HasReason s group job outcome = has_others s.table group job ≡ false
    → (is_success outcome ≡ true) ⊎ ((had_cause s.ending || is_cause outcome) ≡ true)

abbrev pub EndsBeside : State → JobRecord → JobEnd → Option ℕ → Type 0
EndsBeside s row outcome None = Unit {0}
EndsBeside s row outcome (Some group) =
    IsLike s.ending outcome × HasReason s group row.number outcome

pub record CanEnd (s : State) (outcome : JobEnd) (offset : ℕ) (row : JobRecord) : Type 0 where
  pub cause : MayEnd s row outcome
  pub progress : offset ≡ offset_at_end s row outcome
  pub beside : EndsBeside s row outcome row.group

-- ---- what stands side by side

-- no job's start is still to come
abbrev pub AllStarted : State → Type 0
AllStarted s = s.starts ≡ s.table.started

-- and no group is ending: so it is between events
pub record IsAtRest (s : State) : Type 0 where
  pub started : AllStarted s
  pub ended : s.ending ≡ None

abbrev pub IsInGroup : Option Ending → JobRecord → Type 0
IsInGroup None row = Unit {0}
IsInGroup (Some ending) row = row.group ≡ Some ending.group

-- Behind the reply to a command stand the starts of its jobs in their order, and beside the end of a member of a group
-- those of the others.
abbrev pub InTurn : State → Event → Type 0
InTurn s (Start job) = (job ≡ s.starts) × (s.starts < s.table.started)
InTurn s (End job outcome offset) = AllStarted s × With (job_at s.table job) (IsInGroup s.ending)
InTurn s e = IsAtRest s

-- ---- each entry

abbrev pub MayHappen : State → Event → Type 0
MayHappen s (Admit g r op) = IsNextJudged s g r (CanAdmit op)
MayHappen s (Refuse g r op why) =
    IsNextJudged s g r (λ read_only size. IsRefusedFor op read_only size why)
MayHappen s (Piece g r k outcome got) =
    IsInFlight s g r (λ f. IsNextPiece f k outcome (guest_disk s g) got)
MayHappen s (Retire g r) = IsInFlight s g r IsFlightOver
MayHappen s (Reply line given command text) = IsNotDone s 0 × IsAnswer s given command text
MayHappen s (Reached line what) = IsNotDone s 0 × IsMet s what
MayHappen s (Start job) = IsSome (job_at s.table job)
MayHappen s (Ready job) =
    With (job_at s.table job) (λ row. (can_be_ready row row.kind ≡ true) × (row.is_ready ≡ false))
MayHappen s (End job outcome offset) = With (job_at s.table job) (CanEnd s outcome offset)
MayHappen s (Done zero) = IsNotDone s 0
MayHappen s (Done (suc g)) = IsNotDone s (g + 1) × With (guest_at s g) (λ row. row.flight ≡ None)

-- the entry fits the state before it
abbrev pub Fits : State → Event → Type 0
Fits s e = InTurn s e × MayHappen s e

-- a history is legal where each of its entries fits
abbrev pub Legal : State → List Event → Type 0
Legal = Each after Fits
