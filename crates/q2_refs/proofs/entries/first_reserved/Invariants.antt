use Rattle.std.proofs.Common.{◌≡◌, ℕ, ◌<◌, false, get_or}
use Rattle.q2_format.specs.Entry.{has_reserved_in_refcount_table}
use Rattle.q2_refs.proofs.entries.first_reserved.Given as goal

abbrev pub invariant-loop-index : goal.invariant-loop-index
invariant-loop-index l = (k : ℕ) → k < l.index → has_reserved_in_refcount_table (get_or l.table k 0) ≡ false
