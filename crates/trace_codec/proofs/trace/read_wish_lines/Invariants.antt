use Rattle.std.proofs.Common.{◌≡◌, ℕ, suc, List, Option, None, Some, length}
use Rattle.std.specs.Option.{option_copied}
use Rattle.trace_codec.specs.Cut.{parts_of}
use Rattle.trace_codec.specs.Trace.{lines_of}
use Rattle.trace_codec.specs.Wishes.{nothing_read, after_wish_lines}
use Rattle.trace_codec.proofs.trace.read_wish_lines.Given as goal

-- the lines that are left lead where all lines do
abbrev pub invariant-loop-rest : goal.invariant-loop-rest
invariant-loop-rest l =
    after_wish_lines l.reading (parts_of 10 (option_copied l.rest)) ≡ after_wish_lines (nothing_read l.fn.asked) (lines_of l.text)

-- bytes behind a separator count one more than their number, so that the last empty line counts too
abbrev bytes_left : Option (List ℕ) → ℕ
bytes_left None = 0
bytes_left (Some bytes) = suc (length bytes)

abbrev pub decreases-loop-rest : goal.decreases-loop-rest
decreases-loop-rest l = bytes_left (option_copied l.rest)
