-- Runs of one byte each, behind which other runs stand.
use Rattle.std.specs.Prelude.{◌≡◌, ◌≢◌, ℕ, ◌+◌, ◌*◌, ◌/◌, ◌%◌, ◌<◌, ◌≤◌, length, take, slice_index, List, [], ◌∷◌, ◌++◌, false}
use Rattle.std.specs.Fmt.{digit_glyph}

-- each of the first n bytes differs from the one behind it
abbrev pub AreSingle : ℕ → List ℕ → Type 0
AreSingle n bytes =
    (k : ℕ) → k < n → (k + 1 < length bytes) × (slice_index bytes k ≢ slice_index bytes (k + 1))

-- the run of one byte, and a space
abbrev pub single_text : ℕ → List ℕ
single_text b = digit_glyph false (b / 16) ∷ digit_glyph false (b % 16) ∷ 42 ∷ 49 ∷ 32 ∷ []

-- such runs of some bytes
abbrev pub singles_text : List ℕ → List ℕ
singles_text [] = []
singles_text (b ∷ bytes) = single_text b ++ singles_text bytes

-- The runs of the first n bytes are runs of one byte each, and stand at the front of some words.
pub record HasSingles (n : ℕ) (bytes words : List ℕ) : Type 0 where
  pub single : AreSingle n bytes
  pub within : n ≤ length bytes
  pub few : n ≤ 256
  pub written : take (5 * n) words ≡ singles_text (take n bytes)

-- two digits to base 16 for each byte
abbrev pub digits_of : List ℕ → List ℕ
digits_of [] = []
digits_of (b ∷ bytes) = b / 16 ∷ b % 16 ∷ digits_of bytes
