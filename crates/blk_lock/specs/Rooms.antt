-- Rooms, part by part: a number of entries and a number of bytes.
use Rattle.std.specs.Prelude.{ℕ, ◌+◌, ◌-◌, ◌≤◌, Option, Some, None}
use Rattle.blk_base.specs.declared.memory.Room.{Room}

-- what a room counts
pub data Measure : Type 0 where
  in_entries : Measure
  in_bytes : Measure

abbrev pub amount : Measure → Room → ℕ
amount in_entries r = r.entries
amount in_bytes r = r.bytes

abbrev pub room_amount_if : Measure → Option Room → ℕ
room_amount_if k None = 0
room_amount_if k (Some r) = amount k r

abbrev pub no_room : Room
no_room = record { entries = 0; bytes = 0 }

abbrev pub plus : Room → Room → Room
plus a b = record { entries = a.entries + b.entries; bytes = a.bytes + b.bytes }

-- what is left of a after b, and nothing where b is more
abbrev pub less : Room → Room → Room
less a b = record { entries = a.entries - b.entries; bytes = a.bytes - b.bytes }

abbrev pub IsWithinRoom : Room → Room → Type 0
IsWithinRoom a b = (a.entries ≤ b.entries) × (a.bytes ≤ b.bytes)
