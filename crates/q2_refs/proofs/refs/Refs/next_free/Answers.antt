use Rattle.std.proofs.Common.{◌≡◌, ℕ, ◌+◌, ◌≤◌, List, length, get_or, ap, sym, ◌∙◌, arith}
use Rattle.std.proofs.lemmas.List.{get_or_past}
use Rattle.q2_refs.specs.Kept.{KeptRefs}
use Rattle.q2_refs.specs.Free.{free_clusters, will_be_given}
use Rattle.q2_refs.proofs.FreeClusters.{passing, passing_none, passing-more, passing-same, passing-at, taken_not_given}
use Rattle.q2_refs.proofs.refs.Refs.next_free.Goals as goal
use Rattle.q2_refs.proofs.refs.Refs.next_free.Goals.{then-will_be_given+else-left-eq0, else-will_be_given}

pub loop-cluster-init : goal.loop-cluster-init
loop-cluster-init c =
    let none = passing_none (will_be_given c.args.self.now) c.self.inside.cursor
    (λ k below. taken_not_given c.args.self.now k
    (λ e. c.self.invariant.taken k below (ap (λ (kept : KeptRefs). get_or kept.counts k 0) c.self.view_is ∙ e))) in
    let start : 0 + c.args.k ≡ c.args.k = omega arith in
    ap (λ (xs : List ℕ). length xs + c.args.k) none ∙ start

pub returns-then-left-eq0-clause-cluster : goal.returns-then-left-eq0-clause-cluster
unfolding free_clusters
returns-then-left-eq0-clause-cluster c =
    let kept : KeptRefs = c.args.self.now in
    let cluster : ℕ = c.loop-cluster.cluster in
    let counts = ap (λ (kept : KeptRefs). length kept.counts) c.self.view_is in
    let reach : c.len-cluster-end.result ≡ length kept.counts = omega (arith, counts, c.self.inside.counts.ok.0, c.len-cluster-end.ensures) in
    let passes = sym c.will_be_given.ensures ∙ c.if-will_be_given.true in
    let before : length (passing (will_be_given kept) cluster) ≡ c.args.k = omega (arith, c.loop-cluster.invariant) in
    let at = passing-at (will_be_given kept) (length kept.counts) cluster (length kept.counts) (omega (arith, reach)) passes in
    sym (rw before at at)

pub loop-cluster-preserved : goal.loop-cluster-preserved
loop-cluster-preserved c = elim c.if-will_be_given.branch [
  | then-will_be_given+else-left-eq0 w ↦
      let more = passing-more (will_be_given c.args.self.now) c.loop-cluster.cluster (sym c.will_be_given.ensures ∙ w.if-will_be_given.true) in
      omega (arith, more, c.loop-cluster.invariant)
  | else-will_be_given w ↦
      let same = passing-same (will_be_given c.args.self.now) c.loop-cluster.cluster (sym c.will_be_given.ensures ∙ w.if-will_be_given.false) in
      ap (λ (xs : List ℕ). length xs + c.if-will_be_given.left) same ∙ omega (arith, c.loop-cluster.invariant)
]

pub returns-clause-cluster : goal.returns-clause-cluster
unfolding free_clusters
returns-clause-cluster c =
    let kept : KeptRefs = c.args.self.now in
    let counts = ap (λ (kept : KeptRefs). length kept.counts) c.self.view_is in
    let reach : c.len.result ≡ length kept.counts = omega (arith, counts, c.self.inside.counts.ok.0, c.len.ensures) in
    let all : c.loop-cluster.cluster ≡ length kept.counts = omega (arith, counts, c.self.inside.counts.ok.0, c.len-cluster-end.ensures, c.self.invariant.cursor) in
    let few : length (passing (will_be_given kept) (length kept.counts)) ≤ c.args.k =
    let parts = rw all at c.loop-cluster.invariant in omega (arith, parts) in
    reach ∙ sym (get_or_past (passing (will_be_given kept) (length kept.counts)) c.args.k (length kept.counts) few)
