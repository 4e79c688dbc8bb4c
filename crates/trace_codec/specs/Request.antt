-- What a request asks for.
use Rattle.std.specs.Prelude.{ℕ, ◌+◌, nat_lt, ◌||◌, Bool}
use Rattle.blk_base.specs.Pieces.{count_of_pieces}
use Rattle.trace_codec.specs.declared.op.Op.{Op}
use Rattle.trace_codec.specs.declared.op.Op.TheVariants.{Read, Write, Zero, Flush, Discard}
use Rattle.trace_codec.specs.Amounts.{Amounts}

-- how many pieces a request has: a flush has one, and a discard none
abbrev pub pieces_of : Op → ℕ
pieces_of (Read span) = count_of_pieces span
pieces_of (Write span payload) = count_of_pieces span
pieces_of (Zero span) = count_of_pieces span
pieces_of Flush = 1
pieces_of (Discard span) = 0

-- how many bytes it reads
abbrev pub read_bytes_of : Op → ℕ
read_bytes_of (Read span) = span.len
read_bytes_of (Write span payload) = 0
read_bytes_of (Zero span) = 0
read_bytes_of Flush = 0
read_bytes_of (Discard span) = 0

-- what is asked with one request more
abbrev pub with_op : Amounts → Op → Amounts
with_op asked op = record {
  pieces = asked.pieces + pieces_of op;
  read_bytes = asked.read_bytes + read_bytes_of op;
}

-- all traces of a run together have at most 1,000,000 pieces, and read at most 268,435,456 bytes
abbrev pub passes_total : Amounts → Bool
passes_total asked = nat_lt 1000000 asked.pieces || nat_lt 268435456 asked.read_bytes
