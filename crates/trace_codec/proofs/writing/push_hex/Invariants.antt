use Rattle.std.proofs.Common.{◌≡◌, ◌++◌, take, string_bytes}
use Rattle.trace_codec.specs.Hex.{hex}
use Rattle.trace_codec.proofs.writing.push_hex.Given as goal

-- the digits of the bytes so far stand behind what was there
abbrev pub invariant-loop-byte : goal.invariant-loop-byte
invariant-loop-byte l = string_bytes l.text ≡ string_bytes l.fn.text ++ hex (take l.byte-index l.bytes)
