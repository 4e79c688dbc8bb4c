-- The bytes so far are those of their places.
use Rattle.std.proofs.Common.{◌+◌, ◌≡◌, ◌<◌, ℕ, get_or, slice_index}
use Rattle.q2_format.proofs.numbers.copy_from.Given as goal

abbrev pub invariant-loop-i : goal.invariant-loop-i
invariant-loop-i l = (k : ℕ) → k < l.i → get_or l.out k 0 ≡ slice_index l.bytes (l.at + k)
