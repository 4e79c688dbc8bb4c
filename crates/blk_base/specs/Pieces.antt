-- Spans, and their cuts at the borders of blocks.
use Rattle.std.specs.Prelude.{ℕ, ◌+◌, ◌-◌, ◌*◌, ◌/◌, min, max, ◌==◌, if◌then◌else◌}

-- bytes from start on
pub record Extent : Type 0 where
  pub start : ℕ
  pub len : ℕ

-- the byte behind the last
abbrev pub end_of : Extent → ℕ
end_of span = span.start + span.len

-- how many bytes a block has: pieces are cut at its multiples
abbrev pub block_size : ℕ
block_size = 65536

-- how many blocks a span meets, none where it is empty
unfoldable pub count_of_pieces : Extent → ℕ
count_of_pieces span =
    if span.len == 0 then 0 else (end_of span - 1) / block_size + 1 - span.start / block_size

-- cut k: what the span shares with the k-th block that it meets, counted from 0
unfoldable pub piece_of : Extent → ℕ → Extent
piece_of span k =
    let block = (span.start / block_size + k) * block_size in
    let from = max span.start block in
    record { start = from; len = min (end_of span) (block + block_size) - from }
