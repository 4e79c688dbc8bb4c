-- The history of a run, and how far each guest is by it.
use Rattle.std.specs.Prelude.{◌≡◌, ℕ, ◌+◌, ◌*◌, ◌-◌, ◌^◌, ◌<◌, ◌≤◌, Bool, false, List, [], ◌∷◌, ◌++◌, length, map, replicate, slice_get, Option, Some, None, option_map, option_and_then, unwrap_or}
use Rattle.std.specs.List.{filter_map}
use Rattle.blk_base.specs.declared.memory.Room.{Room}
use Rattle.blk_base.specs.declared.fault.Outcome.{Outcome}
use Rattle.trace_codec.specs.declared.op.Op.{Op}
use Rattle.trace_codec.specs.Request.{pieces_of, read_bytes_of}
use Rattle.qmp_rules.specs.Chains.{is_listed}
use Rattle.blk_history.specs.Fold.{change}
use Rattle.blk_history.specs.Disk.{piece}
use Rattle.blk_history.specs.Line.{request_at}
use Rattle.blk_history.specs.Machine.{Flight}
use Rattle.blk_history.specs.Names.{JobLine}
use Rattle.blk_history.specs.Recorded.{Recorded, log_with_entry, log_with_shown}
use Rattle.blk_history.specs.declared.entry.Refused.{Refused}
use Rattle.blk_history.specs.declared.event.Event.{Event}
use Rattle.blk_history.specs.declared.event.Event.TheVariants.{Admit, Refuse, Piece, Retire, Reply, Reached, Start, Done}
use Rattle.blk_pieces.specs.Pieces.{shown_before, shows_in}
use Rattle.flat_machine.specs.State.{Guest}
use Rattle.flat_machine.specs.Opening.{new_guest}
use Rattle.flat_machine.specs.Machine.{admitted, finished, past_piece}
use Rattle.world_parts.specs.declared.row.InFlight.{InFlight}
use Rattle.world_parts.specs.declared.row.GuestProgress.{GuestProgress}

-- the guests by number, the room of the history that neither a request in flight nor a job needs, how many entries are set aside
-- for jobs, the names of those that began, and the history
pub record Progress : Type 0 where
  pub guests : List Guest
  pub spare : Room
  pub aside : ℕ
  pub jobs : List JobLine
  pub log : Recorded

-- ---- what the history says by itself

-- the actors that are done, in order
abbrev pub actor_done : Event → Option ℕ
actor_done (Done actor) = Some actor
actor_done e = None

abbrev pub ended_in : List Event → List ℕ
ended_in events = filter_map actor_done events

-- the lines of the script that have their reply, or of which the wait is over, in order
abbrev pub answered_by : Event → Option ℕ
answered_by (Reply line given command text) = Some line
answered_by (Reached line what) = Some line
answered_by e = None

abbrev pub answered_in : List Event → List ℕ
answered_in events = filter_map answered_by events

-- ---- a guest's row: its request in flight stands in the history

abbrev pub flight_as : InFlight → Op → Flight
flight_as f op = record { op = op; next = f.next; is_stopped = f.is_stopped }

abbrev pub flight_in : List Event → InFlight → Option Flight
flight_in events f = option_map (flight_as f) (request_at events f.place)

abbrev pub guest_in : List Event → GuestProgress → Guest
guest_in events row =
    record { done = row.done; flight = option_and_then (flight_in events) row.flight }

abbrev pub guests_in : List Event → List GuestProgress → List Guest
guests_in events rows = map (guest_in events) rows

-- a guest's request in flight
abbrev pub flight_at : List Guest → ℕ → Option Flight
flight_at guests g = option_and_then (λ row. row.flight) (slice_get guests g)

-- ---- room

-- what a request in flight still adds: an entry for each piece that is left and one for its end, and the bytes of its reads
abbrev pub owed : Option Flight → ℕ
owed None = 0
owed (Some f) = pieces_of f.op - f.next + 1

abbrev pub owed_bytes : Option Flight → ℕ
owed_bytes None = 0
owed_bytes (Some f) = read_bytes_of f.op - shown_before f.op f.next

abbrev pub owed_by : List Guest → ℕ
owed_by [] = 0
owed_by (row ∷ rows) = owed row.flight + owed_by rows

abbrev pub owed_bytes_by : List Guest → ℕ
owed_bytes_by [] = 0
owed_bytes_by (row ∷ rows) = owed_bytes row.flight + owed_bytes_by rows

-- ---- what belongs together

-- a request in flight was admitted, with pieces that numbers can count, and is not the last that they can count
pub record IsPlaced (events : List Event) (done : ℕ) (f : InFlight) : Type 0 where
  pub op : Op
  pub at : request_at events f.place ≡ Some op
  pub next : f.next ≤ pieces_of op
  pub pieces : pieces_of op < 2 ^ 32
  pub numbered : done + 1 < 2 ^ 32

abbrev pub IsPlacedIn : List Event → ℕ → Option InFlight → Type 0
IsPlacedIn events done None = Unit {0}
IsPlacedIn events done (Some f) = IsPlaced events done f

abbrev pub HaveTheirPlaces : List Event → List GuestProgress → Type 0
HaveTheirPlaces events [] = Unit {0}
HaveTheirPlaces events (row ∷ rows) =
    IsPlacedIn events row.done row.flight × HaveTheirPlaces events rows

-- rows say whether their guests are done; the first of them has this number as an actor
abbrev pub AreMarked : List ℕ → ℕ → List GuestProgress → Type 0
AreMarked ended actor [] = Unit {0}
AreMarked ended actor (row ∷ rows) =
    (row.is_done ≡ is_listed actor ended) × AreMarked ended (actor + 1) rows

pub record KeepsStep (log : Recorded) (spare : Room) (aside : ℕ) (jobs : List JobLine)
    (most : ℕ) (rows : List GuestProgress)
    (is_done : Bool) (lines : List ℕ) (capacity : ℕ) : Type 0 where
  pub placed : HaveTheirPlaces log.events rows
  pub script : is_done ≡ is_listed 0 (ended_in log.events)
  pub guests : AreMarked (ended_in log.events) 1 rows
  pub answered : lines ≡ answered_in log.events
  pub line_room : length lines + log.room ≤ capacity
  pub room : (spare.entries + aside) + owed_by (guests_in log.events rows) ≤ log.room
  pub bytes : spare.bytes + owed_bytes_by (guests_in log.events rows) ≤ log.byte_room
  pub few : aside ≤ 32
  pub named : 3 * length jobs + spare.entries ≤ 3 * most

-- ---- the beginning

abbrev pub new_row : GuestProgress
new_row = record { done = 0; flight = None; is_done = false }

abbrev pub no_log : Room → Recorded
no_log room = record { events = []; bytes = []; room = room.entries; byte_room = room.bytes }

abbrev pub no_progress : ℕ → Room → Progress
no_progress guests room =
    record {
      guests = replicate guests new_guest;
      spare = room;
      aside = 0;
      jobs = [];
      log = no_log room;
    }

-- ---- what each entry leaves

abbrev pub room_less : ℕ → ℕ → Room → Room
room_less entries bytes room =
    record { entries = room.entries - entries; bytes = room.bytes - bytes }

-- how many requests of a guest are done
abbrev pub requests_done : List Guest → ℕ → ℕ
requests_done guests g = unwrap_or (option_map (λ row. row.done) (slice_get guests g)) 0

-- a request is admitted: room for its pieces, for its entry and its end, and for what it reads is set aside
abbrev pub with_admission : ℕ → Op → Progress → Progress
with_admission g op p = record p {
  guests = change g (admitted op) p.guests;
  spare = room_less (pieces_of op + 2) (read_bytes_of op) p.spare;
  log = log_with_entry p.log (Admit g (requests_done p.guests g) op);
}

abbrev pub with_refusal : ℕ → Op → Refused → Progress → Progress
with_refusal g op why p = record p {
  guests = change g finished p.guests;
  spare = room_less 1 0 p.spare;
  log = log_with_entry p.log (Refuse g (requests_done p.guests g) op why);
}

abbrev pub with_piece_entry : ℕ → ℕ → Outcome → List ℕ → Progress → Progress
with_piece_entry g k outcome got p = record p {
  guests = change g (past_piece outcome) p.guests;
  log = log_with_shown p.log (Piece g (requests_done p.guests g) k outcome got) got;
}

abbrev pub with_retirement : ℕ → Progress → Progress
with_retirement g p = record p {
  guests = change g finished p.guests;
  log = log_with_entry p.log (Retire g (requests_done p.guests g));
}

-- an entry that changes no guest's row
abbrev pub with_bare_entry : Event → Progress → Progress
with_bare_entry e p = record p { spare = room_less 1 0 p.spare; log = log_with_entry p.log e }

-- A job begins, by whose command an answer was noted before: two entries are set aside for it, that it is ready and that it
-- ends.
abbrev pub with_start : ℕ → JobLine → Progress → Progress
with_start job line p = record p {
  spare = room_less 3 0 p.spare;
  aside = p.aside + 2;
  jobs = p.jobs ++ line ∷ [];
  log = log_with_entry p.log (Start job);
}

-- an entry of a job, behind which so much less is set aside
abbrev pub with_job_entry : ℕ → Event → Progress → Progress
with_job_entry n e p = record p { aside = p.aside - n; log = log_with_entry p.log e }

-- ---- when each can be made

-- a guest has no request in flight, and can still count one more
pub record IsFree (row : Guest) : Type 0 where
  pub idle : row.flight ≡ None
  pub numbered : row.done + 1 < 2 ^ 32

-- The next piece of a request in flight can be made, and shows no more than it has bytes to show.
pub record HasNext (f : Flight) : Type 0 where
  pub running : f.is_stopped ≡ false
  pub next : f.next < pieces_of f.op

pub record CanShow (n : ℕ) (f : Flight) : Type 0 where
  pub next : f.next < pieces_of f.op
  pub shown : n ≤ shows_in f.op (piece f.op f.next).len

-- a request's pieces can be counted, and there is room for them, two entries and what it reads
pub record HasRoomFor (op : Op) (spare : Room) : Type 0 where
  pub pieces : pieces_of op < 2 ^ 32
  pub entries : pieces_of op + 2 ≤ spare.entries
  pub bytes : read_bytes_of op ≤ spare.bytes
