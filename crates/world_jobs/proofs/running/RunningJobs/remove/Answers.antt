use Rattle.std.proofs.Common.{List, arith, length, ap, subst, sym}
use Rattle.block_jobs.specs.Work.{JobWork}
use Rattle.world_goings.specs.Copied.{FailedAreDone}
use Rattle.world_goings.proofs.Failed.{gone_done}
use Rattle.world_jobs.proofs.WorkCounts.{without_count}
use Rattle.world_jobs.proofs.running.RunningJobs.remove.Goals as goal

pub invariant_of-self : goal.invariant_of-self
invariant_of-self c =
    let fewer = without_count c.args.job c.self.inside.works (rw (← c.self.view_is) at c.requires) in
    let same = ap (λ (works : List JobWork). length works) c.remove.ensures in
    let was = c.self.invariant.0.0 in
    let popped = c.in-Some.ensures.len in
    let kept = c.in-Some.ensures.capacity in
    let wide = c.self.invariant.0.1.0 in (
      (omega (arith, fewer, same, was, popped), (omega (arith, kept, wide), c.self.invariant.0.1.1)),
      subst FailedAreDone (sym c.remove.ensures) (gone_done c.args.job c.self.inside.works c.self.invariant.1),
    )
