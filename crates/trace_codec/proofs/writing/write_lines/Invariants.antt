use Rattle.std.proofs.Common.{◌≡◌, [], ◌∷◌, ◌++◌, take, string_bytes}
use Rattle.std.specs.Prelude.{flat_map}
use Rattle.trace_codec.specs.Spelling.{line_for}
use Rattle.trace_codec.proofs.writing.write_lines.Given as goal

-- the lines of the requests so far
abbrev pub invariant-loop-op : goal.invariant-loop-op
invariant-loop-op l = string_bytes l.text ≡ flat_map (λ op. line_for op ++ 10 ∷ []) (take l.op-index l.ops)
