use Rattle.std.proofs.Common.{◌≡◌, ◌≤◌, suc, arith, rules, ap, length}
use Rattle.blk_bits.specs.Words.{IsAboveLast}
use Rattle.blk_bits.proofs.TowerLemmas.{above-last}
use Rattle.blk_bits.proofs.dirty_set.DirtySet.level.Goals as goal

pub returns-in_err-get-in-Some-clause-last : goal.returns-in_err-get-in-Some-clause-last
returns-in_err-get-in-Some-clause-last c =
    let k-is : c.args.k ≡ suc c.in-Some.above = omega (arith, c.in-Some.ensures) in
    let behind : length c.self.inside.above.items ≤ c.in-Some.above = omega (arith, c.in_err-get-in-Some.ensures.lookup.3, ap length c.deref.ensures.value) in (
      (λ _. rw (k-is, ← c.self.view_is) (above-last c.self.inside.members c.self.inside.above.items c.in-Some.above c.self.invariant behind)),
      (λ _. rw c.from_residual.ensures (search rules)),
    )
