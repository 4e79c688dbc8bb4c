use Rattle.std.proofs.Common.{arith, length, ap}
use Rattle.blk_history.specs.Recorded.{Recorded, PointsWithin}
use Rattle.blk_history.proofs.Points.{points-push}
use Rattle.blk_history.proofs.history.History.push.Goals as goal

pub invariant_of-self : goal.invariant_of-self
invariant_of-self c =
    let same = ap (λ (v : Recorded). length v.bytes) c.self.view_is in
    let within : PointsWithin (length c.self.inside.bytes.items) c.args.entry = rw same c.requires.within in
    (omega arith, c.self.invariant.1, rw c.push_entry.ensures.items (points-push _ _ _ c.self.invariant.2 within))
