use Rattle.std.proofs.Common.{ap, length, subst, sym, ◌∙◌}
use Rattle.block_jobs.specs.Work.{left_again}
use Rattle.world_goings.specs.Copied.{FailedAreDone}
use Rattle.world_goings.proofs.Failed.{marked_done}
use Rattle.world_jobs.proofs.WorkCounts.{with_count}
use Rattle.world_jobs.proofs.running.RunningJobs.mark.Goals as goal

pub invariant_of-self : goal.invariant_of-self
invariant_of-self c =
    let job = c.in-Some-follower_of.row.now.number in
    let part = c.in-Some.part in (
      (c.self.invariant.0.0 ∙ sym (ap length c.mark.ensures ∙ with_count job (left_again part) c.self.inside.works), c.self.invariant.0.1),
      subst FailedAreDone (sym c.mark.ensures) (marked_done job part c.self.inside.works c.self.invariant.1),
    )
