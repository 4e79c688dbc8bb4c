-- The clusters so far count one, and no other does.
use Rattle.std.proofs.Common.{◌+◌, ◌*◌, ◌≡◌, ◌<◌, ℕ, cond, ltb}
use Rattle.q2_format.specs.Bytes.{number_at}
use Rattle.q2_format.proofs.refcounts.write_refcount_block.Given as goal

abbrev pub invariant-loop-cluster : goal.invariant-loop-cluster
invariant-loop-cluster l = (k : ℕ) → k < 32768 → number_at l.out (0 + k * 2) 2 ≡ cond (ltb k l.cluster) 1 0
