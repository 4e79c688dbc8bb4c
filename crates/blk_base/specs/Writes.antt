-- Lists of writes in their order: what they leave, and the part of them that is made where a call stops.
use Rattle.std.specs.Prelude.{◌≡◌, ◌⊎◌, ℕ, ◌+◌, ◌%◌, ◌<◌, max, Bool, true, false, List, [], ◌∷◌, length, take}
use Rattle.blk_base.specs.Content.{Write, Log, size_with, log_with, after_writes}
use Rattle.blk_base.specs.declared.fault.DevStop.{DevStop}
use Rattle.blk_base.specs.declared.fault.DevStop.TheVariants.{Io, NoSpace}

-- these bytes at an offset, as one write
abbrev pub write_of : ℕ → List ℕ → Write
write_of offset bytes = record { offset = offset; bytes = bytes }

-- the byte behind the last of a write
abbrev pub end_of_write : Write → ℕ
end_of_write w = w.offset + length w.bytes

-- the highest end of these writes, and 0 where there is none
abbrev pub end_of_writes : List Write → ℕ
end_of_writes [] = 0
end_of_writes (w ∷ ws) = max (end_of_write w) (end_of_writes ws)

-- how long a file is after these writes
abbrev pub size_after_writes : ℕ → List Write → ℕ
size_after_writes size [] = size
size_after_writes size (w ∷ ws) = size_after_writes (size_with size w.offset w.bytes) ws

-- the log with these writes behind it
abbrev pub log_after_writes : Log → List Write → Log
log_after_writes log [] = log
log_after_writes log (w ∷ ws) = log_after_writes (log_with log w.offset w.bytes) ws

-- no write is tried
abbrev pub are_none : List Write → Bool
are_none [] = true
are_none (w ∷ ws) = false

-- the first n bytes of a write
abbrev pub first_bytes : ℕ → Write → Write
first_bytes n w = write_of w.offset (take n w.bytes)

-- what is made of a write that stops: not all of it, and none or up to a border of sectors of 512 bytes
pub record IsTorn (whole part : Write) : Type 0 where
  pub n : ℕ
  pub short : n < length whole.bytes
  pub sector : (n ≡ 0) ⊎ ((whole.offset + n) % 512 ≡ 0)
  pub first : part ≡ first_bytes n whole

-- what is made of a write that is refused
abbrev pub IsRefused : Write → Write → Type 0
IsRefused whole part = part ≡ first_bytes 0 whole

-- what is made of the write at which a call stops
abbrev pub IsCutBy : DevStop → Write → Write → Type 0
IsCutBy (Io count) = IsTorn
IsCutBy NoSpace = IsRefused

-- the part of these writes that is made: those before one of them, and of that one a cut
abbrev pub IsPart : (Write → Write → Type 0) → List Write → List Write → Type 0
IsPart IsCut [] made = ⊥
IsPart IsCut (w ∷ ws) [] = ⊥
IsPart IsCut (w ∷ ws) (m ∷ made) = ((m ≡ w) × IsPart IsCut ws made) ⊎ (IsCut w m × (made ≡ []))

-- P holds of the bytes wherever these writes are stopped, between two of them or within one, and behind the last
pub record AtEachStop (P : List ℕ → Type 0) (ws : List Write) (bytes : List ℕ) : Type 0 where
  pub stopped : (made : List Write) → IsPart IsTorn ws made → P (after_writes bytes made)
  pub done : P (after_writes bytes ws)
