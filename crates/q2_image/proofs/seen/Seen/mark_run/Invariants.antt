use Rattle.std.proofs.Common.{◌≡◌, ℕ, ◌+◌, ◌-◌, length}
use Rattle.q2_image.specs.Seen.{IsSeen, named_in_run}
use Rattle.q2_image.proofs.seen.Seen.mark_run.Given as goal

abbrev pub invariant-loop-cluster : goal.invariant-loop-cluster
invariant-loop-cluster l =
    (length l.self.named ≡ length l.initial.self.named)
    × ((uses : ℕ → ℕ) → IsSeen uses l.initial.self → IsSeen (λ k. uses k + named_in_run l.first (l.cluster - l.first) k) l.self)
