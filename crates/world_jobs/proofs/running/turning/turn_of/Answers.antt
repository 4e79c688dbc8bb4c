use Rattle.std.proofs.Common.{sym, subst}
use Rattle.world_jobs.specs.Turning.{IsCopyStep}
use Rattle.world_jobs.proofs.CopySteps.{copy_step}
use Rattle.world_jobs.proofs.running.turning.turn_of.Goals as goal

pub turn_by-requires : goal.turn_by-requires
turn_by-requires c = subst IsCopyStep (sym c.step_of.ensures) (copy_step c.args.all_done c.args.row.now c.args.work.now c.requires c.law.ensures)
