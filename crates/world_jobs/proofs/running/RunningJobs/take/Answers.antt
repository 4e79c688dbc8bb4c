use Rattle.std.proofs.Common.{sym, ◌∙◌}
use Rattle.world_goings.proofs.Failed.{step_done, taken_done}
use Rattle.world_jobs.proofs.WorkCounts.{kept_count}
use Rattle.world_jobs.proofs.running.RunningJobs.take.Goals as goal

pub invariant_of-self : goal.invariant_of-self
invariant_of-self g c = (
  (c.self.invariant.0.0 ∙ sym (kept_count _ _ _ _ c.take.ensures.takes), c.self.invariant.0.1),
  step_done _ _ _ _ c.take.ensures.takes c.self.invariant.1
      (λ done. taken_done _ _ _ _ done _ _ _ _ _ c.take.ensures.takes.done.takes),
)
