use Rattle.std.proofs.Common.{◌≡◌, ℕ, suc, List, Option, None, Some, length}
use Rattle.std.specs.Option.{option_copied}
use Rattle.trace_codec.specs.Cut.{parts_of}
use Rattle.trace_codec.specs.Trace.{lines_of}
use Rattle.trace_codec.specs.Awaits.{first_wait_from}
use Rattle.trace_codec.proofs.awaiting.first_await.Given as goal

-- the first wait of the lines that are left is that of all
abbrev pub invariant-loop-rest : goal.invariant-loop-rest
invariant-loop-rest l = first_wait_from l.number (parts_of 10 (option_copied l.rest)) ≡ first_wait_from 1 (lines_of l.text)

-- bytes behind a separator count one more than their number, so that the last empty line counts too
abbrev bytes_left : Option (List ℕ) → ℕ
bytes_left None = 0
bytes_left (Some bytes) = suc (length bytes)

abbrev pub decreases-loop-rest : goal.decreases-loop-rest
decreases-loop-rest l = bytes_left (option_copied l.rest)
