use Rattle.std.proofs.Common.{◌≡◌, ℕ, ◌<◌, false}
use Rattle.q2_image.specs.Seen.{is_uncounted}
use Rattle.q2_image.proofs.counting.first_uncounted.Given as goal

abbrev pub invariant-loop-cluster : goal.invariant-loop-cluster
invariant-loop-cluster l = (k : ℕ) → k < l.cluster → is_uncounted l.seen.named l.refs.counts k ≡ false
