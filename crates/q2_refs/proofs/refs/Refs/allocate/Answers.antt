use Rattle.std.proofs.Common.{◌≡◌, ℕ, ◌*◌, ◌<◌, ◌≤◌, List, [], ◌∷◌, length, Some, None, refl, sym, ap, subst, ◌∙◌, arith}
use Rattle.std.proofs.lemmas.Result.{err_from_is_err_and}
use Rattle.q2_refs.specs.Allocating.{IsInStep, StopsAllocating, allocation_writes, with_one, with_block_for}
use Rattle.q2_refs.proofs.Allocated.{left_kept, done_step, done_unused, given_stops, given_keeps, left_step, err_stops}
use Rattle.q2_refs.proofs.AllocationStops.{CanBeGiven}
use Rattle.blk_base.specs.Device.{Writes}
use Rattle.blk_base.specs.declared.fault.DevStop.{DevStop}
use Rattle.q2_refs.specs.Free.{free_clusters, free_cluster}
use Rattle.q2_refs.specs.Kept.{KeptRefs, per_block}
use Rattle.q2_refs.proofs.FreeClusters.{first_free_cluster, none_free, given_count, free_refused, free_taken, some_entries, given_counts_one}
use Rattle.q2_refs.proofs.Placing.{unused_by_count}
use Rattle.q2_refs.proofs.refs.Refs.allocate.Goals as goal

pub returns-then-cluster-len-clause-full : goal.returns-then-cluster-len-clause-full
returns-then-cluster-len-clause-full g c =
    let S : KeptRefs = c.skip_taken.new.self in
    let counts = ap (λ (k : KeptRefs). length k.counts) c.self.view_is in
    let len : c.len.result ≡ length S.counts = omega (arith, counts, c.self.inside.counts.ok.0, c.len.ensures) in
    let P : KeptRefs → Type 0 = λ k. free_clusters k ≡ [] in
    (λ full. subst P c.skip_taken.ensures (none_free S (sym len ∙ sym c.if-cluster-len.true ∙ c.next_free-cluster.ensures.cluster)), λ none. refl)

pub returns-in_err-take-clause-again : goal.returns-in_err-take-clause-again
returns-in_err-take-clause-again g c =
    let S : KeptRefs = c.skip_taken.new.self in
    let n : ℕ = c.next_free-cluster.result in
    let counts = ap (λ (k : KeptRefs). length k.counts) c.self.view_is in
    let len : c.len.result ≡ length S.counts = omega (arith, counts, c.self.inside.counts.ok.0, c.len.ensures) in
    let first = first_free_cluster S n c.next_free-cluster.ensures.cluster (λ e. c.if-cluster-len.false (e ∙ sym len)) in
    let A : KeptRefs → Type 0 = λ k. length k.counts ≤ length k.table * per_block k in
    let reach : A S = subst A c.self.view_is c.self.invariant.reach in
    let B : KeptRefs → Type 0 = λ k. 0 < per_block k in
    let some : B S = subst B c.self.view_is (some_entries c.self.invariant.cluster_bits c.self.invariant.refcount_order) in
    let p = err_from_is_err_and c.from_residual.result c.from_residual.ensures.1 in
    let kept = left_kept g.D.Device S n c.in_err-take.field-0.0 c.take.new.self c.args.dev.now c.take.new.dev c.in_err-take.ensures.left in
    rw p.1 (free_refused S c.take.new.self n some reach first.3 kept ∙ ap free_clusters c.skip_taken.ensures)

pub returns-clause-given : goal.returns-clause-given
returns-clause-given g c =
    let S : KeptRefs = c.skip_taken.new.self in
    let n : ℕ = c.next_free-cluster.result in
    let counts = ap (λ (k : KeptRefs). length k.counts) c.self.view_is in
    let len : c.len.result ≡ length S.counts = omega (arith, counts, c.self.inside.counts.ok.0, c.len.ensures) in
    let first = first_free_cluster S n c.next_free-cluster.ensures.cluster (λ e. c.if-cluster-len.false (e ∙ sym len)) in
    let A : KeptRefs → Type 0 = λ k. length k.counts ≤ length k.table * per_block k in
    let reach : A S = subst A c.self.view_is c.self.invariant.reach in
    let B : KeptRefs → Type 0 = λ k. 0 < per_block k in
    let some : B S = subst B c.self.view_is (some_entries c.self.invariant.cluster_bits c.self.invariant.refcount_order) in
    let rest = free_taken S n first.0 some reach first.3 first.1 in
    ap free_clusters (sym c.skip_taken.ensures) ∙ first.1 ∙ ap (λ (xs : List ℕ). n ∷ xs) (sym rest ∙ ap free_clusters (sym c.in_ok-take.ensures.ok))

pub returns-clause-below : goal.returns-clause-below
returns-clause-below g c =
    let S : KeptRefs = c.skip_taken.new.self in
    let n : ℕ = c.next_free-cluster.result in
    let counts = ap (λ (k : KeptRefs). length k.counts) c.self.view_is in
    let len : c.len.result ≡ length S.counts = omega (arith, counts, c.self.inside.counts.ok.0, c.len.ensures) in
    let first = first_free_cluster S n c.next_free-cluster.ensures.cluster (λ e. c.if-cluster-len.false (e ∙ sym len)) in
    let P : KeptRefs → Type 0 = λ k. n < length k.counts in
    subst P c.skip_taken.ensures first.3

pub returns-clause-unused : goal.returns-clause-unused
returns-clause-unused g c =
    let S : KeptRefs = c.skip_taken.new.self in
    let n : ℕ = c.next_free-cluster.result in
    let counts = ap (λ (k : KeptRefs). length k.counts) c.self.view_is in
    let len : c.len.result ≡ length S.counts = omega (arith, counts, c.self.inside.counts.ok.0, c.len.ensures) in
    let first = first_free_cluster S n c.next_free-cluster.ensures.cluster (λ e. c.if-cluster-len.false (e ∙ sym len)) in
    λ file told.
    let P : KeptRefs → Type 0 = λ k. IsInStep file k in
    unused_by_count file S n (subst P (sym c.skip_taken.ensures) (c.requires.step file told)) first.3 (given_count S n first.2)

pub returns-clause-counted : goal.returns-clause-counted
returns-clause-counted g c =
    let S : KeptRefs = c.skip_taken.new.self in
    let K : KeptRefs = c.args.self.now in
    let n : ℕ = c.next_free-cluster.result in
    let counts = ap (λ (k : KeptRefs). length k.counts) c.self.view_is in
    let len : c.len.result ≡ length S.counts = omega (arith, counts, c.self.inside.counts.ok.0, c.len.ensures) in
    let first = first_free_cluster S n c.next_free-cluster.ensures.cluster (λ e. c.if-cluster-len.false (e ∙ sym len)) in
    let A : KeptRefs → Type 0 = λ k. length k.counts ≤ length k.table * per_block k in
    let F : KeptRefs → Type 0 = λ k. length k.counts ≤ 8388608 in
    let G : KeptRefs → Type 0 = λ k. CanBeGiven k n in
    let can : G K = subst G c.skip_taken.ensures (record {
      below = first.3;
      few = subst F (sym c.skip_taken.ensures) c.requires.few;
      given = first.2;
      reach = subst A c.self.view_is c.self.invariant.reach;
    }) in
    λ file told.
    let one = given_counts_one K n can.below in
    let W : KeptRefs → Type 0 = λ k. Writes g.D.Device (allocation_writes k n) None c.args.dev.now c.take.new.dev in
    let step = done_step g.D.Device K n c.args.dev.now c.take.new.dev c.requires.step can (subst W c.skip_taken.ensures c.in_ok-take.ensures.writes) file told in
    sym (step.counts.counts n one.0) ∙ one.1

pub returns-clause-unused_still : goal.returns-clause-unused_still
returns-clause-unused_still g c =
    let S : KeptRefs = c.skip_taken.new.self in
    let K : KeptRefs = c.args.self.now in
    let n : ℕ = c.next_free-cluster.result in
    let counts = ap (λ (k : KeptRefs). length k.counts) c.self.view_is in
    let len : c.len.result ≡ length S.counts = omega (arith, counts, c.self.inside.counts.ok.0, c.len.ensures) in
    let first = first_free_cluster S n c.next_free-cluster.ensures.cluster (λ e. c.if-cluster-len.false (e ∙ sym len)) in
    let A : KeptRefs → Type 0 = λ k. length k.counts ≤ length k.table * per_block k in
    let F : KeptRefs → Type 0 = λ k. length k.counts ≤ 8388608 in
    let G : KeptRefs → Type 0 = λ k. CanBeGiven k n in
    let can : G K = subst G c.skip_taken.ensures (record {
      below = first.3;
      few = subst F (sym c.skip_taken.ensures) c.requires.few;
      given = first.2;
      reach = subst A c.self.view_is c.self.invariant.reach;
    }) in
    let W : KeptRefs → Type 0 = λ k. Writes g.D.Device (allocation_writes k n) None c.args.dev.now c.take.new.dev in
    done_unused g.D.Device K n c.args.dev.now c.take.new.dev c.requires.step can (subst W c.skip_taken.ensures c.in_ok-take.ensures.writes)

pub returns-clause-stops : goal.returns-clause-stops
returns-clause-stops g c =
    let S : KeptRefs = c.skip_taken.new.self in
    let K : KeptRefs = c.args.self.now in
    let n : ℕ = c.next_free-cluster.result in
    let counts = ap (λ (k : KeptRefs). length k.counts) c.self.view_is in
    let len : c.len.result ≡ length S.counts = omega (arith, counts, c.self.inside.counts.ok.0, c.len.ensures) in
    let first = first_free_cluster S n c.next_free-cluster.ensures.cluster (λ e. c.if-cluster-len.false (e ∙ sym len)) in
    let A : KeptRefs → Type 0 = λ k. length k.counts ≤ length k.table * per_block k in
    let F : KeptRefs → Type 0 = λ k. length k.counts ≤ 8388608 in
    let G : KeptRefs → Type 0 = λ k. CanBeGiven k n in
    let can : G K = subst G c.skip_taken.ensures (record {
      below = first.3;
      few = subst F (sym c.skip_taken.ensures) c.requires.few;
      given = first.2;
      reach = subst A c.self.view_is c.self.invariant.reach;
    }) in
    given_stops g.D.Device K n c.args.dev.now c.take.new.dev c.requires.step can

pub returns-clause-step : goal.returns-clause-step
returns-clause-step g c =
    let S : KeptRefs = c.skip_taken.new.self in
    let K : KeptRefs = c.args.self.now in
    let n : ℕ = c.next_free-cluster.result in
    let counts = ap (λ (k : KeptRefs). length k.counts) c.self.view_is in
    let len : c.len.result ≡ length S.counts = omega (arith, counts, c.self.inside.counts.ok.0, c.len.ensures) in
    let first = first_free_cluster S n c.next_free-cluster.ensures.cluster (λ e. c.if-cluster-len.false (e ∙ sym len)) in
    let A : KeptRefs → Type 0 = λ k. length k.counts ≤ length k.table * per_block k in
    let F : KeptRefs → Type 0 = λ k. length k.counts ≤ 8388608 in
    let G : KeptRefs → Type 0 = λ k. CanBeGiven k n in
    let can : G K = subst G c.skip_taken.ensures (record {
      below = first.3;
      few = subst F (sym c.skip_taken.ensures) c.requires.few;
      given = first.2;
      reach = subst A c.self.view_is c.self.invariant.reach;
    }) in
    λ file told.
    let W : KeptRefs → Type 0 = λ k. Writes g.D.Device (allocation_writes k n) None c.args.dev.now c.take.new.dev in
    let step = done_step g.D.Device K n c.args.dev.now c.take.new.dev c.requires.step can (subst W c.skip_taken.ensures c.in_ok-take.ensures.writes) file told in
    let T : KeptRefs → Type 0 = λ k. IsInStep file k in
    let made : c.take.new.self ≡ with_one (with_block_for K n) n = c.in_ok-take.ensures.ok ∙ ap (λ (k : KeptRefs). with_one (with_block_for k n) n) c.skip_taken.ensures in
    subst T (sym made) step

pub returns-clause-keeps : goal.returns-clause-keeps
returns-clause-keeps g c =
    let S : KeptRefs = c.skip_taken.new.self in
    let K : KeptRefs = c.args.self.now in
    let n : ℕ = c.next_free-cluster.result in
    let counts = ap (λ (k : KeptRefs). length k.counts) c.self.view_is in
    let len : c.len.result ≡ length S.counts = omega (arith, counts, c.self.inside.counts.ok.0, c.len.ensures) in
    let first = first_free_cluster S n c.next_free-cluster.ensures.cluster (λ e. c.if-cluster-len.false (e ∙ sym len)) in
    let A : KeptRefs → Type 0 = λ k. length k.counts ≤ length k.table * per_block k in
    let F : KeptRefs → Type 0 = λ k. length k.counts ≤ 8388608 in
    let G : KeptRefs → Type 0 = λ k. CanBeGiven k n in
    let can : G K = subst G c.skip_taken.ensures (record {
      below = first.3;
      few = subst F (sym c.skip_taken.ensures) c.requires.few;
      given = first.2;
      reach = subst A c.self.view_is c.self.invariant.reach;
    }) in
    let W : KeptRefs → Type 0 = λ k. Writes g.D.Device (allocation_writes k n) None c.args.dev.now c.take.new.dev in
    given_keeps g.D.Device K n c.args.dev.now c.take.new.dev c.requires.step can None (subst W c.skip_taken.ensures c.in_ok-take.ensures.writes)

pub returns-in_err-take-clause-stops : goal.returns-in_err-take-clause-stops
returns-in_err-take-clause-stops g c =
    let S : KeptRefs = c.skip_taken.new.self in
    let K : KeptRefs = c.args.self.now in
    let n : ℕ = c.next_free-cluster.result in
    let counts = ap (λ (k : KeptRefs). length k.counts) c.self.view_is in
    let len : c.len.result ≡ length S.counts = omega (arith, counts, c.self.inside.counts.ok.0, c.len.ensures) in
    let first = first_free_cluster S n c.next_free-cluster.ensures.cluster (λ e. c.if-cluster-len.false (e ∙ sym len)) in
    let A : KeptRefs → Type 0 = λ k. length k.counts ≤ length k.table * per_block k in
    let F : KeptRefs → Type 0 = λ k. length k.counts ≤ 8388608 in
    let G : KeptRefs → Type 0 = λ k. CanBeGiven k n in
    let can : G K = subst G c.skip_taken.ensures (record {
      below = first.3;
      few = subst F (sym c.skip_taken.ensures) c.requires.few;
      given = first.2;
      reach = subst A c.self.view_is c.self.invariant.reach;
    }) in
    let stop : DevStop = c.in_err-take.field-0.0 in
    let p = err_from_is_err_and c.from_residual.result c.from_residual.ensures.1 in
    let first_of : n ≡ free_cluster K 0 = c.next_free-cluster.ensures.cluster ∙ ap (λ (k : KeptRefs). free_cluster k 0) c.skip_taken.ensures in
    err_stops g.D.Device K n c.args.dev.now c.take.new.dev stop p.0 c.from_residual.result p.1 p.2 first_of
    (given_stops g.D.Device K n c.args.dev.now c.take.new.dev c.requires.step can)

pub returns-in_err-take-clause-step : goal.returns-in_err-take-clause-step
returns-in_err-take-clause-step g c =
    let S : KeptRefs = c.skip_taken.new.self in
    let K : KeptRefs = c.args.self.now in
    let n : ℕ = c.next_free-cluster.result in
    let counts = ap (λ (k : KeptRefs). length k.counts) c.self.view_is in
    let len : c.len.result ≡ length S.counts = omega (arith, counts, c.self.inside.counts.ok.0, c.len.ensures) in
    let first = first_free_cluster S n c.next_free-cluster.ensures.cluster (λ e. c.if-cluster-len.false (e ∙ sym len)) in
    let A : KeptRefs → Type 0 = λ k. length k.counts ≤ length k.table * per_block k in
    let F : KeptRefs → Type 0 = λ k. length k.counts ≤ 8388608 in
    let G : KeptRefs → Type 0 = λ k. CanBeGiven k n in
    let can : G K = subst G c.skip_taken.ensures (record {
      below = first.3;
      few = subst F (sym c.skip_taken.ensures) c.requires.few;
      given = first.2;
      reach = subst A c.self.view_is c.self.invariant.reach;
    }) in
    let stop : DevStop = c.in_err-take.field-0.0 in
    let L : KeptRefs → Type 0 = λ k. StopsAllocating g.D.Device k n stop c.take.new.self c.args.dev.now c.take.new.dev in
    left_step g.D.Device K n c.args.dev.now c.take.new.dev c.requires.step can stop c.take.new.self (subst L c.skip_taken.ensures c.in_err-take.ensures.left)

pub returns-in_err-take-clause-keeps : goal.returns-in_err-take-clause-keeps
returns-in_err-take-clause-keeps g c =
    let S : KeptRefs = c.skip_taken.new.self in
    let K : KeptRefs = c.args.self.now in
    let n : ℕ = c.next_free-cluster.result in
    let counts = ap (λ (k : KeptRefs). length k.counts) c.self.view_is in
    let len : c.len.result ≡ length S.counts = omega (arith, counts, c.self.inside.counts.ok.0, c.len.ensures) in
    let first = first_free_cluster S n c.next_free-cluster.ensures.cluster (λ e. c.if-cluster-len.false (e ∙ sym len)) in
    let A : KeptRefs → Type 0 = λ k. length k.counts ≤ length k.table * per_block k in
    let F : KeptRefs → Type 0 = λ k. length k.counts ≤ 8388608 in
    let G : KeptRefs → Type 0 = λ k. CanBeGiven k n in
    let can : G K = subst G c.skip_taken.ensures (record {
      below = first.3;
      few = subst F (sym c.skip_taken.ensures) c.requires.few;
      given = first.2;
      reach = subst A c.self.view_is c.self.invariant.reach;
    }) in
    let stop : DevStop = c.in_err-take.field-0.0 in
    let W : KeptRefs → Type 0 = λ k. Writes g.D.Device (allocation_writes k n) (Some stop) c.args.dev.now c.take.new.dev in
    given_keeps g.D.Device K n c.args.dev.now c.take.new.dev c.requires.step can (Some stop) (subst W c.skip_taken.ensures c.in_err-take.ensures.left.writes)
