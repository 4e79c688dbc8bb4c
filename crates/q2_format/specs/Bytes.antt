-- The bytes of a file by place. A place past the end reads as 0, so a file that grows by zeros reads as before.
use Rattle.std.specs.Prelude.{◌≡◌, ℕ, ◌+◌, ◌*◌, ◌<◌, ◌≤◌, ◌⊎◌, List, length, map, slice_index}
use Rattle.std.specs.List.{range_with_len}
use Rattle.byteorder.specs.Endian.{big_from}

-- the big-endian number in the n bytes from a place on
unfoldable pub number_at : List ℕ → ℕ → ℕ → ℕ
number_at file at n = big_from at n file

-- the n bytes from a place on
unfoldable pub place_bytes : List ℕ → ℕ → ℕ → List ℕ
place_bytes file at n = map (λ i. slice_index file i) (range_with_len at n)

-- the n words of 8 bytes from a place on
unfoldable pub words_at : List ℕ → ℕ → ℕ → List ℕ
words_at file at n = map (λ k. number_at file (at + 8 * k) 8) (range_with_len 0 n)

-- a file of `len` bytes can have these words from a place on
pub record CanStandAt (len at : ℕ) (words : List ℕ) : Type 0 where
  pub file : List ℕ
  pub size : length file ≡ len
  pub are : words ≡ words_at file at (length words)

-- two files read the same at the n places from `at` on
pub record ReadsAlike (old new : List ℕ) (at n : ℕ) : Type 0 where
  pub same : (i : ℕ) → at ≤ i → i < at + n → slice_index new i ≡ slice_index old i

-- new reads as old, but for these bytes from `at` on
pub record IsWritten (old new : List ℕ) (at : ℕ) (bytes : List ℕ) : Type 0 where
  pub inside : (i : ℕ) → i < length bytes → slice_index new (at + i) ≡ slice_index bytes i
  pub outside : (i : ℕ) → (i < at) ⊎ (at + length bytes ≤ i) → slice_index new i ≡ slice_index old i

-- a list of bytes stands in a file from a place on
pub record Holds (file : List ℕ) (at : ℕ) (bytes : List ℕ) : Type 0 where
  pub each : (i : ℕ) → i < length bytes → slice_index file (at + i) ≡ slice_index bytes i
  pub ends : at + length bytes ≤ length file
