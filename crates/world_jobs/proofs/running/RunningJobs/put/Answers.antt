use Rattle.std.proofs.Common.{arith, subst, sym}
use Rattle.std.proofs.lemmas.Grind.{common_steps}
use Rattle.world_goings.specs.Copied.{FailedAreDone}
use Rattle.world_goings.proofs.Failed.{begun_done}
use Rattle.world_jobs.proofs.running.RunningJobs.put.Goals as goal

pub invariant_of-self : goal.invariant_of-self
invariant_of-self c = (
  grind (arith, common_steps),
  subst FailedAreDone (sym c.put.ensures) (begun_done c.self.inside.works c.args.work c.requires.unmet c.self.invariant.1),
)
