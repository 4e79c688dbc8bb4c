use Rattle.std.proofs.Common.{◌≡◌, ◌*◌, drop, length}
use Rattle.trace_codec.specs.Hex.{bytes_of_digits}
use Rattle.trace_codec.proofs.HexLemmas.{joined_behind}
use Rattle.trace_codec.proofs.payload.read_bytes.Given as goal

-- the bytes so far stand before those of the digits that are left
abbrev pub invariant-loop-k : goal.invariant-loop-k
invariant-loop-k l = record {
  rest : joined_behind l.bytes.items (bytes_of_digits (drop (2 * l.k) l.digits)) ≡ bytes_of_digits l.digits;
  count : length l.bytes.items ≡ l.k;
}
