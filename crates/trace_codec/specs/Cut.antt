-- Bytes that are cut at a separator.
use Rattle.std.specs.Prelude.{◌≡◌, ◌≢◌, ℕ, ◌<◌, List, [], length, slice_index, ◌==◌, Option, Some, None}
use Rattle.std.specs.List.{slice_split}

-- the separator stands there, and nowhere before
pub record IsFirstAt (separator at : ℕ) (bytes : List ℕ) : Type 0 where
  pub within : at < length bytes
  pub here : slice_index bytes at ≡ separator
  pub before : (k : ℕ) → k < at → slice_index bytes k ≢ separator

-- the parts of the rest behind a separator, none where none stood
abbrev pub parts_of : ℕ → Option (List ℕ) → List (List ℕ)
parts_of separator None = []
parts_of separator (Some rest) = slice_split (λ b. b == separator) rest
