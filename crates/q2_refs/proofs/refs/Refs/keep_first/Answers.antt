use Rattle.std.proofs.Common.{List, ℕ, sym, subst}
use Rattle.q2_refs.specs.Kept.{KeptRefs, IsCountsOf}
use Rattle.q2_refs.specs.contracts.refs.Refs.{the_view}
use Rattle.q2_refs.proofs.FreeClusters.{IsCountsOf-take}
use Rattle.q2_refs.proofs.refs.Refs.keep_first.Goals as goal

pub returns-clause-counts : goal.returns-clause-counts
returns-clause-counts c = λ file h counts.
    let Q : KeptRefs → Type 0 = λ k. IsCountsOf file h k in
    let kept : KeptRefs = the_view c.self.inside in
    let P : List ℕ → Type 0 = λ xs. IsCountsOf file h (record kept { counts = xs }) in
    subst P (sym c.truncate.ensures.items) (IsCountsOf-take file h kept c.args.reach (subst Q (sym c.self.view_is) counts))
