use Rattle.std.proofs.Common.{◌++◌, length, refl, arith, length-append}
use Rattle.blk_history.proofs.Points.{points-more, events-append}
use Rattle.blk_history.proofs.history.History.push_read.Goals as goal

pub invariant_of-self : goal.invariant_of-self
invariant_of-self c =
    let old = c.self.inside.bytes.items in
    let more = points-more (length old) (length (old ++ c.args.bytes.now)) c.self.inside.entries.items (omega (arith, length-append old c.args.bytes.now)) c.self.invariant.2 in
    (c.self.invariant.0, omega arith, rw c.push_bytes.ensures.items more)

pub returns-clause-kept : goal.returns-clause-kept
returns-clause-kept c =
    let kept = events-append c.self.inside.bytes.items c.args.bytes.now c.self.inside.entries.items c.self.invariant.2 in
    rw (c.push_bytes.ensures.items, kept, ← c.self.view_is) refl
