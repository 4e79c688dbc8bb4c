-- Bytes of a disk or file: what is read past the end, what a write leaves, and a log of writes.
use Rattle.std.specs.Prelude.{ℕ, ◌+◌, ◌≤◌, max, List, [], ◌∷◌, ◌++◌, length, take, drop, replicate, Option, Some, option_map, slice_index, ◌≡◌}

-- n bytes from an offset on, zeros past the end
unfoldable pub bytes_at : List ℕ → ℕ → ℕ → List ℕ
bytes_at bytes offset n = take n (drop offset bytes ++ replicate n 0)

-- of bytes that begin at an offset, all past this end are 0
abbrev pub AreZeroPast : ℕ → ℕ → List ℕ → Type 0
AreZeroPast end offset bytes = (k : ℕ) → end ≤ offset + k → slice_index bytes k ≡ 0

-- bytes put over what stands at an offset; a gap past the end is zeros
unfoldable pub overwritten : List ℕ → ℕ → List ℕ → List ℕ
overwritten old offset bytes =
    take offset (old ++ replicate offset 0) ++ bytes ++ drop (offset + length bytes) old

-- what a write leaves; one of no bytes leaves all as it is
abbrev pub with_bytes : List ℕ → ℕ → List ℕ → List ℕ
with_bytes old offset [] = old
with_bytes old offset (byte ∷ bytes) = overwritten old offset (byte ∷ bytes)

-- how long a file is after a write
abbrev pub size_with : ℕ → ℕ → List ℕ → ℕ
size_with size offset [] = size
size_with size offset (byte ∷ bytes) = max size (offset + length (byte ∷ bytes))

-- one write
pub record Write : Type 0 where
  pub offset : ℕ
  pub bytes : List ℕ

-- the bytes before the first write that is kept, and the writes since, in order
pub record Log : Type 0 where
  pub before : List ℕ
  pub writes : List Write

-- the bytes after these writes
abbrev pub after_writes : List ℕ → List Write → List ℕ
after_writes bytes [] = bytes
after_writes bytes (w ∷ ws) = after_writes (with_bytes bytes w.offset w.bytes) ws

-- the log with one more write; one of no bytes is none
abbrev pub log_with : Log → ℕ → List ℕ → Log
log_with log offset [] = log
log_with log offset (byte ∷ bytes) =
    record log { writes = log.writes ++ record { offset = offset; bytes = byte ∷ bytes } ∷ [] }

-- a log that is still kept is the one before with this write
abbrev pub GoesOn : Option Log → ℕ → List ℕ → Option Log → Type 0
GoesOn old offset bytes new =
    (log : Log) → new ≡ Some log → option_map (λ l. log_with l offset bytes) old ≡ Some log
