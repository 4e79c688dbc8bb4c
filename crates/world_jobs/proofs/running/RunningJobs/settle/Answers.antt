use Rattle.std.proofs.Common.{sym, ◌∙◌}
use Rattle.world_goings.proofs.Failed.{settled_done, step_done}
use Rattle.world_jobs.proofs.WorkCounts.{kept_count}
use Rattle.world_jobs.proofs.running.RunningJobs.settle.Goals as goal

pub invariant_of-self : goal.invariant_of-self
invariant_of-self g c = (
  (c.self.invariant.0.0 ∙ sym (kept_count _ _ _ _ c.settle.ensures.settles), c.self.invariant.0.1),
  step_done _ _ _ _ c.settle.ensures.settles c.self.invariant.1
      (λ done. settled_done _ _ _ _ done _ _ _ _ _ c.settle.ensures.settles.done.settles),
)
