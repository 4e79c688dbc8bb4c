-- The runs of a list of bytes, and how they are written.
use Rattle.std.specs.Prelude.{◌≡◌, ◌≢◌, ℕ, ◌+◌, ◌/◌, ◌%◌, ◌<◌, ◌≤◌, length, slice_index, List, [], ◌∷◌, ◌++◌, replicate, false, map, decimal, ◌==◌, if◌then◌else◌}
use Rattle.std.specs.Fmt.{digit_glyph}
use Rattle.std.specs.List.{join_with_byte}

-- a byte, and how often it stands in a row
pub record Run : Type 0 where
  pub byte : ℕ
  pub count : ℕ

-- One byte more before some runs joins the first of them where that is of the same byte, and else is a run of its own.
abbrev pub with_byte : ℕ → List Run → List Run
with_byte b [] = record { byte = b; count = 1 } ∷ []
with_byte b (r ∷ rs) =
    if b == r.byte then record { byte = b; count = r.count + 1 } ∷ rs
    else record { byte = b; count = 1 } ∷ r ∷ rs

-- the runs of some bytes, each as long as possible
abbrev pub runs_of : List ℕ → List Run
runs_of [] = []
runs_of (b ∷ bytes) = with_byte b (runs_of bytes)

-- the bytes that some runs stand for
abbrev pub bytes_of_runs : List Run → List ℕ
bytes_of_runs [] = []
bytes_of_runs (r ∷ rs) = replicate r.count r.byte ++ bytes_of_runs rs

-- no run is empty, and none is of the same byte as the next
abbrev pub AreLongest : List Run → Type 0
AreLongest [] = Unit {0}
AreLongest (r ∷ []) = 0 < r.count
AreLongest (r ∷ q ∷ rs) = (0 < r.count) × (r.byte ≢ q.byte) × AreLongest (q ∷ rs)

-- two lower-case hexadecimal digits, `*`, and the count in decimal
abbrev pub run_text : Run → List ℕ
run_text r =
    digit_glyph false (r.byte / 16) ∷ digit_glyph false (r.byte % 16) ∷ 42 ∷ decimal r.count

-- the texts of some runs, parted by single spaces
abbrev pub text_of : List Run → List ℕ
text_of rs = join_with_byte 32 (map run_text rs)

-- the text of the runs of some bytes, which is empty for no bytes
unfoldable pub runs_text : List ℕ → List ℕ
runs_text bytes = text_of (runs_of bytes)

-- n bytes at the front are b, and the one behind them isn't
pub record IsFront (b n : ℕ) (bytes : List ℕ) : Type 0 where
  pub within : n ≤ length bytes
  pub same : (k : ℕ) → k < n → slice_index bytes k ≡ b
  pub ends : n < length bytes → slice_index bytes n ≢ b
