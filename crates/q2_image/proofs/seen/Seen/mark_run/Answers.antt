use Rattle.std.proofs.Common.{◌≡◌, ℕ, ◌+◌, ◌-◌, ◌≤◌, ap, arith}
use Rattle.q2_image.specs.Seen.{named_at, named_in_run}
use Rattle.q2_image.proofs.Sightings.{seen_alike, run-more}
use Rattle.q2_image.proofs.seen.Seen.mark_run.Goals as goal

one_more : (uses : ℕ → ℕ) (first cluster k : ℕ) → first ≤ cluster
    → (uses k + named_in_run first (cluster - first) k) + named_at cluster k ≡ uses k + named_in_run first (cluster + 1 - first) k
one_more uses first cluster k h =
    let step = run-more first (cluster - first) k in
    let place : first + (cluster - first) ≡ cluster = omega arith in
    let count : cluster - first + 1 ≡ cluster + 1 - first = omega arith in
    let at = ap (λ (c : ℕ). named_at c k) place in
    let run = ap (λ (n : ℕ). named_in_run first n k) count in
    omega arith

pub loop-cluster-preserved : goal.loop-cluster-preserved
loop-cluster-preserved c =
    (omega arith, λ uses seen. seen_alike _ _ _ (λ k. one_more uses c.args.first c.loop-cluster.cluster k (omega arith)) (c.mark.ensures.seen _ (c.loop-cluster.invariant.1 uses seen)))

pub returns-clause-seen : goal.returns-clause-seen
returns-clause-seen c = λ uses seen. seen_alike _ _ _ (λ k. let e : c.loop-cluster.cluster - c.args.first ≡ c.args.count = omega arith in ap (λ (n : ℕ). uses k + named_in_run c.args.first n k) e) (c.loop-cluster.invariant.1 uses seen)
