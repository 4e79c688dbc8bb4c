use Rattle.std.proofs.Common.{sym, ◌∙◌, arith}
use Rattle.std.proofs.lemmas.Grind.{common_steps}
use Rattle.world_goings.proofs.Failed.{guarded_done, step_done}
use Rattle.world_jobs.proofs.WorkCounts.{kept_count}
use Rattle.world_jobs.proofs.running.RunningJobs.guard.Goals as goal

pub invariant_of-self : goal.invariant_of-self
invariant_of-self g c = (
  (
    c.self.invariant.0.0 ∙ sym (kept_count _ _ _ _ c.guard.ensures.guards),
    (c.self.invariant.0.1.0, grind (arith, common_steps, c.guard.ensures.buffer, c.deref_mut.ensures.len, c.self.invariant.0.1.1)),
  ),
  step_done _ _ _ _ c.guard.ensures.guards c.self.invariant.1
      (λ done. guarded_done _ _ _ _ done _ _ _ c.guard.ensures.guards.done.guards),
)
