use Rattle.std.proofs.Common.{length, ap, arith}
use Rattle.q2_refs.specs.Kept.{KeptRefs}
use Rattle.q2_refs.proofs.refs.Refs.block_place.Goals as goal

pub overflow_mul-result : goal.overflow_mul-result
overflow_mul-result c =
    let counts = ap (λ (kept : KeptRefs). length kept.counts) c.self.view_is in
    rw c.per_block.ensures (omega (arith, c.requires, counts, c.self.invariant.small))
