-- Texts that are the runs of a block.
use Rattle.std.specs.Prelude.{◌≡◌, ◌≢◌, ℕ, ◌<◌, ◌≤◌, ◌==◌, List, [], ◌∷◌, length, slice_index, All, Option, Some, None}
use Rattle.std.specs.List.{slice_split}
use Rattle.blk_runs.specs.Runs.{Run, AreLongest, bytes_of_runs}
use Rattle.blk_runs.specs.declared.reading.ReadRun.{ReadRun}
use Rattle.blk_runs.specs.declared.reading.Read.{Read}

-- at most 65,536 bytes
pub record IsBlock (bytes : List ℕ) : Type 0 where
  pub within : length bytes ≤ 65536
  pub small : All (λ b. b < 256) bytes

-- a run of a block
pub record IsBlockRun (r : Run) : Type 0 where
  pub byte : r.byte < 256
  pub some : 0 < r.count
  pub count : r.count ≤ 65536

abbrev pub seen_run : ReadRun → Run
seen_run r = record { byte = r.byte; count = r.count }

-- longest runs of a block
pub record AreBlockRuns (rs : List Run) : Type 0 where
  pub each : All IsBlockRun rs
  pub longest : AreLongest rs
  pub within : length (bytes_of_runs rs) ≤ 65536

-- the byte of the last run
abbrev pub last_byte : List Run → Option ℕ
last_byte [] = None
last_byte (r ∷ []) = Some r.byte
last_byte (r ∷ q ∷ rs) = last_byte (q ∷ rs)

-- these runs were read so far
pub record HasRead (front : List Run) (read : Read) : Type 0 where
  pub are : AreBlockRuns front
  pub last : read.last ≡ last_byte front
  pub len : read.len ≡ length (bytes_of_runs front)

-- ---- words

-- parts between single spaces
abbrev pub words_of : List ℕ → List (List ℕ)
words_of text = slice_split (λ b. b == 32) text

-- of what stands behind a space, where there is one
abbrev pub words_behind : Option (List ℕ) → List (List ℕ)
words_behind None = []
words_behind (Some rest) = words_of rest

pub record IsFirstSpace (at : ℕ) (text : List ℕ) : Type 0 where
  pub within : at < length text
  pub here : slice_index text at ≡ 32
  pub before : (k : ℕ) → k < at → slice_index text k ≢ 32
