use Rattle.std.proofs.Common.{◌≡◌, ℕ, ◌+◌, length, take}
use Rattle.q2_image.specs.Seen.{IsSeen, times_named}
use Rattle.q2_image.proofs.seen.Seen.mark_words.Given as goal

abbrev pub invariant-loop-word : goal.invariant-loop-word
invariant-loop-word l =
    (length l.self.named ≡ length l.initial.self.named)
    × ((uses : ℕ → ℕ) → IsSeen uses l.initial.self → IsSeen (λ k. uses k + times_named l.cluster_size l.kind (take l.word-index l.words) k) l.self)
