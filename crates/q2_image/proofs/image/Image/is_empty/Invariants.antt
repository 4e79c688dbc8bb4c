use Rattle.std.proofs.Common.{◌≡◌, ℕ, ◌<◌}
use Rattle.q2_format.specs.declared.entries.L2Entry.TheVariants as entries
use Rattle.q2_image.specs.Image.{entry_in}
use Rattle.q2_image.proofs.image.Image.is_empty.Given as goal

abbrev pub invariant-loop-cluster : goal.invariant-loop-cluster
invariant-loop-cluster l = (k : ℕ) → k < l.cluster → entry_in l.self k ≡ entries.Unallocated
