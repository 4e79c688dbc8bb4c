-- Truth values in words of 64 bits, and the levels of such words that a dirty set keeps: each says which words of the
-- one below aren't 0.
use Rattle.std.specs.Prelude.{◌≡◌, ℕ, zero, suc, ◌+◌, ◌*◌, ◌/◌, ◌%◌, ◌^◌, ◌<◌, ◌≤◌, Bool, not, ◌==◌, ◌||◌, List, [], length, map, slice_index, slice_index_or, slice_range, true, false, if◌then◌else◌}
use Rattle.std.specs.List.{range_with_len}
use Rattle.std.specs.Int.{bit_at}
use Rattle.std.specs.Simd.Lanes.{mask_l}
use Rattle.blk_bits.specs.Granules.{contains, those_below, with_span, without_span}

-- how many words keep so many truth values
abbrev pub word_count : ℕ → ℕ
word_count bits = (bits + 63) / 64

-- the words that keep some truth values, 64 in each: the first of them is the lowest bit of the first word
unfoldable pub words_of_bits : List Bool → List ℕ
words_of_bits bits =
    map (λ word. mask_l (slice_range bits (64 * word) (64 * word + 64)))
    (range_with_len 0 (word_count (length bits)))

-- which of these words aren't 0
unfoldable pub used_words : List Bool → List Bool
used_words bits = map (λ word. not (word == 0)) (words_of_bits bits)

-- what the words of level k keep: of the first the members, of each further one which words of the level below aren't 0
abbrev pub kept_at : List Bool → ℕ → List Bool
kept_at set zero = set
kept_at set (suc k) = used_words (kept_at set k)

-- the last level is the first that has at most one word
abbrev pub IsAboveLast : List Bool → ℕ → Type 0
IsAboveLast set zero = ⊥
IsAboveLast set (suc k) = word_count (length (kept_at set k)) ≤ 1

-- Levels above a set: as many as there are up to the last one, and each keeps what that level keeps.
pub record AreAbove (set : List Bool) (levels : List (List Bool)) : Type 0 where
  pub kept : (k : ℕ) → k < length levels → slice_index_or levels k [] ≡ kept_at set (suc k)
  pub several : (k : ℕ) → k < length levels → 1 < word_count (length (kept_at set k))
  pub last : word_count (length (kept_at set (length levels))) ≤ 1

-- bit k of some words
abbrev pub has_bit : List ℕ → ℕ → Bool
has_bit words k = bit_at (slice_index words (k / 64)) (k % 64) == 1

-- so many truth values, from the bits of some words
abbrev pub bits_in : ℕ → List ℕ → List Bool
bits_in count words = those_below count (has_bit words)

-- there are just enough words for so many truth values, and the bits behind them are 0
pub record HasWords (count : ℕ) (words : List ℕ) : Type 0 where
  pub enough : length words ≡ word_count count
  pub spare : (k : ℕ) → count ≤ k → has_bit words k ≡ false
  pub fits : (k : ℕ) → slice_index words k < 2 ^ 64
  pub small : count < 2 ^ 64

-- a set with a span added or removed
abbrev pub with_written : List Bool → ℕ → ℕ → Bool → List Bool
with_written set from to value = if value then with_span set from to else without_span set from to

-- the members of either of two sets
abbrev pub either : List Bool → List Bool → List Bool
either set other = those_below (length set) (λ k. contains set k || contains other k)

-- 1 for a word that is 0 where it isn't to be, or the other way round
abbrev pub lacks : ℕ → Bool → ℕ
lacks word true = if word == 0 then 1 else 0
lacks word false = if word == 0 then 0 else 1
