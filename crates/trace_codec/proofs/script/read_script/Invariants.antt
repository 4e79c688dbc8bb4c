use Rattle.std.proofs.Common.{◌≡◌, ◌≤◌, ◌+◌, ℕ, suc, List, ◌++◌, Option, None, Some, length}
use Rattle.std.specs.Prelude.{map}
use Rattle.std.specs.Option.{option_copied}
use Rattle.trace_codec.specs.Cut.{parts_of}
use Rattle.trace_codec.specs.Trace.{lines_of}
use Rattle.trace_codec.specs.Script.{seen_order, orders_from, count_of_lines}
use Rattle.trace_codec.proofs.ScriptLemmas.{IsAt}
use Rattle.trace_codec.proofs.script.read_script.Given as goal

abbrev pub invariant-loop-rest : goal.invariant-loop-rest
invariant-loop-rest l = record {
  orders : map seen_order l.script.items ++ orders_from l.guests l.number (parts_of 10 (option_copied l.rest)) ≡ orders_from l.guests 1 (lines_of l.text);
  at : IsAt l.number (option_copied l.rest) (count_of_lines (lines_of l.text));
}

-- bytes behind a separator count one more than their number, so that the last empty line counts too
abbrev bytes_left : Option (List ℕ) → ℕ
bytes_left None = 0
bytes_left (Some bytes) = suc (length bytes)

abbrev pub decreases-loop-rest : goal.decreases-loop-rest
decreases-loop-rest l = bytes_left (option_copied l.rest)
