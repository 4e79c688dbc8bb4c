use Rattle.std.proofs.Common.{◌≡◌, ◌*◌, arith}
use Rattle.blk_bits.proofs.MergeLemmas.{ceil_lt}
use Rattle.blk_bits.proofs.ratio.Ratio.overlapped.Goals as goal

pub returns-clause-ends : goal.returns-clause-ends
returns-clause-ends c = λ k below.
    let ceil = ceil_lt c.args.self.mine (c.args.self.theirs * c.args.span.to) k c.requires in
    let end = rw (c.from-mine.ensures, c.from-theirs.ensures, c.from-2.ensures) at c.div_ceil.ensures in
    let to = rw (end, c.from-count.ensures) at c.min-to.ensures in
    rw to ((λ h. ceil.0 (omega (arith, h))), (λ h. omega (arith, ceil.1 h, below)))
