-- What a line of a transcript needs.
use Rattle.std.specs.Prelude.{◌≡◌, ℕ, zero, suc, ◌+◌, ◌*◌, ◌<◌, ◌≤◌, List, [], ◌∷◌, ◌++◌, length, flat_map, slice_get, codes, decimal, Option, Some, None, option_and_then}
use Rattle.serde_json.specs.Data.{string}
use Rattle.serde_json.specs.Written.{compact_text}
use Rattle.blk_base.specs.Written.{Written, memory_of}
use Rattle.blk_base.specs.declared.fault.Fault.{Fault}
use Rattle.trace_codec.specs.declared.op.Op.{Op}
use Rattle.qmp_codec.specs.declared.event.EventName.{EventName}
use Rattle.qmp_codec.specs.Events.{event_text as event_word, kind_text}
use Rattle.blk_history.specs.Names.{RowNames, JobLine}
use Rattle.blk_history.specs.Transcript.{guest_word, job_line, fault_text}
use Rattle.blk_history.specs.declared.event.Event.{Event}
use Rattle.blk_history.specs.declared.event.Event.TheVariants.{Admit, Refuse, Piece, Retire, Reply, Reached, Start, Ready, End, Done}

-- words, each behind a blank
abbrev pub blanked : List (List ℕ) → List ℕ
blanked words = flat_map (λ word. 32 ∷ word) words

-- as JSON it is itself between quotation marks
abbrev pub StaysInJson : List ℕ → Type 0
StaysInJson text = compact_text (string text) ≡ 34 ∷ (text ++ 34 ∷ [])

-- a job has a line, and its id prints as it is
abbrev pub HasJob : RowNames → ℕ → Type 0
HasJob names job = (job < length names.jobs) × StaysInJson (job_line names job).id

abbrev pub HasActor : RowNames → ℕ → Type 0
HasActor names zero = Unit {0}
HasActor names (suc g) = g < length names.guests

-- its guest, job or actor has a name
abbrev pub IsActorNamed : RowNames → Event → Type 0
IsActorNamed names (Admit g r op) = g < length names.guests
IsActorNamed names (Refuse g r op why) = g < length names.guests
IsActorNamed names (Piece g r k outcome got) = g < length names.guests
IsActorNamed names (Retire g r) = g < length names.guests
IsActorNamed names (Reply line given command text) = Unit {0}
IsActorNamed names (Reached line what) = Unit {0}
IsActorNamed names (Start job) = HasJob names job
IsActorNamed names (Ready job) = HasJob names job
IsActorNamed names (End job outcome offset) = HasJob names job
IsActorNamed names (Done actor) = HasActor names actor

abbrev pub actor_room : RowNames → ℕ → ℕ
actor_room names zero = 0
actor_room names (suc g) = length (guest_word names g)

-- how much longer than 256 bytes its line may be: by its name, and by what it shows
abbrev pub long_part : RowNames → Event → ℕ
long_part names (Admit g r op) = length (guest_word names g)
long_part names (Refuse g r op why) = length (guest_word names g)
long_part names (Piece g r k outcome got) = length (guest_word names g) + 5 * length got
long_part names (Retire g r) = length (guest_word names g)
long_part names (Reply line given command text) = length text
long_part names (Reached line what) = 0
long_part names (Start job) = 256 + 2 * length (job_line names job).id
long_part names (Ready job) = 256 + 2 * length (job_line names job).id
long_part names (End job outcome offset) = 256 + 2 * length (job_line names job).id
long_part names (Done actor) = actor_room names actor

-- room in which its line fits
abbrev pub line_room : RowNames → Event → ℕ
line_room names e = 256 + long_part names e

-- the text has these bytes more, and not less room than that takes
pub record Appends (old new : Written) (more : List ℕ) (taken : ℕ) : Type 0 where
  pub bytes : new.bytes ≡ old.bytes ++ more
  pub room : old.spare ≤ new.spare + taken
  pub memory : memory_of old ≤ memory_of new

-- it is an entry of that guest
abbrev pub IsOfGuest : ℕ → Event → Type 0
IsOfGuest guest (Admit g r op) = g ≡ guest
IsOfGuest guest (Refuse g r op why) = g ≡ guest
IsOfGuest guest (Piece g r k outcome got) = g ≡ guest
IsOfGuest guest (Retire g r) = g ≡ guest
IsOfGuest guest e = ⊥

-- the bytes that it shows
abbrev pub shown_by : Event → List ℕ
shown_by (Piece g r k outcome got) = got
shown_by e = []

-- the request that an entry admits
abbrev pub admitted_by : Event → Option Op
admitted_by (Admit g r op) = Some op
admitted_by e = None

-- the request that the entry at a place admits
abbrev pub request_at : List Event → ℕ → Option Op
request_at events place = option_and_then admitted_by (slice_get events place)

-- the text of a reply
abbrev pub reply_by : Event → Option (List ℕ)
reply_by (Reply line given command text) = Some text
reply_by e = None

-- that holds of the event at a place
abbrev pub At : List Event → ℕ → (Event → Type 0) → Type 0
At events place P = (e : Event) → slice_get events place ≡ Some e → P e

-- ---- the parts of what a job tells: its id, its fault where it failed, how far it is, and what became of it

abbrev pub device_part : List ℕ → List ℕ
device_part id = codes " {\"data\":{\"device\":\"" ++ (id ++ codes "\"")

abbrev pub error_part : Option Fault → List ℕ
error_part None = []
error_part (Some fault) = codes ",\"error\":\"" ++ (fault_text fault ++ codes "\"")

abbrev pub length_part : JobLine → List ℕ
length_part job = codes ",\"len\":" ++ decimal job.size

abbrev pub offset_part : ℕ → List ℕ
offset_part offset = codes ",\"offset\":" ++ decimal offset

abbrev pub kind_part : JobLine → List ℕ
kind_part job =
    codes ",\"speed\":0,\"type\":\"" ++ ((kind_text job.kind ++ codes "\"") ++ codes "}")

abbrev pub progress_part : JobLine → ℕ → List ℕ
progress_part job offset = length_part job ++ (offset_part offset ++ kind_part job)

abbrev pub name_part : EventName → List ℕ
name_part name =
    codes ",\"event\":\""
    ++ (event_word name ++ codes "\",\"timestamp\":{\"microseconds\":-1,\"seconds\":-1}}")

-- with a blank before it
abbrev pub event_parts : JobLine → EventName → Option Fault → ℕ → List ℕ
event_parts job name fault offset =
    device_part job.id ++ (error_part fault ++ (progress_part job offset ++ name_part name))

-- a fault's words print as they are
abbrev pub IsPlainFault : Option Fault → Type 0
IsPlainFault None = Unit {0}
IsPlainFault (Some fault) = StaysInJson (fault_text fault)
