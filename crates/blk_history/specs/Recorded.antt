-- What contracts see of a history: its events, the bytes that its reads gave, and the room that is left.
use Rattle.std.specs.Prelude.{ℕ, ◌-◌, ◌≤◌, List, [], ◌∷◌, ◌++◌, length, slice_range}
use Rattle.blk_base.specs.Pieces.{end_of}
use Rattle.blk_history.specs.declared.entry.Entry.{Entry}
use Rattle.blk_history.specs.declared.entry.Entry.TheVariants as entries
use Rattle.blk_history.specs.declared.event.Event.{Event}
use Rattle.blk_history.specs.declared.event.Event.TheVariants as events

pub record Recorded : Type 0 where
  pub events : List Event
  pub bytes : List ℕ
  -- so many more entries and bytes go in without taking memory
  pub room : ℕ
  pub byte_room : ℕ

-- the history with one more entry, and with bytes that it shows
abbrev pub log_with_shown : Recorded → Event → List ℕ → Recorded
log_with_shown log e got = record {
  events = log.events ++ e ∷ [];
  bytes = log.bytes ++ got;
  room = log.room - 1;
  byte_room = log.byte_room - length got;
}

-- the history with an entry that shows nothing
abbrev pub log_with_entry : Recorded → Event → Recorded
log_with_entry log e = record log { events = log.events ++ e ∷ []; room = log.room - 1 }

-- an entry with the bytes that it points to
abbrev pub event_of : List ℕ → Entry → Event
event_of bytes (entries.Admit g r op) = events.Admit g r op
event_of bytes (entries.Refuse g r op why) = events.Refuse g r op why
event_of bytes (entries.Piece g r k outcome got) =
    events.Piece g r k outcome (slice_range bytes got.start (end_of got))
event_of bytes (entries.Retire g r) = events.Retire g r
event_of bytes (entries.Reply line given command text) =
    events.Reply line given.bytes command text.bytes
event_of bytes (entries.Reached line what) = events.Reached line what
event_of bytes (entries.Start job) = events.Start job
event_of bytes (entries.Ready job) = events.Ready job
event_of bytes (entries.End job outcome offset) = events.End job outcome offset
event_of bytes (entries.Done actor) = events.Done actor

-- the bytes that an entry points to are among so many
abbrev pub PointsWithin : ℕ → Entry → Type 0
PointsWithin n (entries.Piece g r k outcome got) = end_of got ≤ n
PointsWithin n entry = Unit {0}

-- each entry does
abbrev pub AllPointWithin : ℕ → List Entry → Type 0
AllPointWithin n [] = Unit {0}
AllPointWithin n (e ∷ es) = PointsWithin n e × AllPointWithin n es
