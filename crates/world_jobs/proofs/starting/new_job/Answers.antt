use Rattle.std.proofs.Common.{refl, subst, sym}
use Rattle.job_commands.specs.Begun.{copy_job}
use Rattle.world_jobs.specs.Plans.{Plan, seen_plan}
use Rattle.world_jobs.proofs.CopyPlans.{IsRowOfPlan, planned_row}
use Rattle.world_jobs.proofs.NewJobs.{new_job_by}
use Rattle.world_jobs.proofs.starting.new_job.Goals as goal

pub returns : goal.returns
returns c = λ copy planned.
    new_job_by c.args.names.now.table c.args.bitmaps.now (seen_plan c.args.plan) (copy_job c.args.names.now.table copy)
    (subst (λ (p : Plan). IsRowOfPlan c.args.names.now.table p (copy_job c.args.names.now.table copy)) (sym planned) (planned_row c.args.names.now.table copy))
    c.requires _ c.node_named-source.result.now c.node_named.result.now _
    c.node_named-source.ensures c.node_named.ensures c.bitmap_by-bitmap.ensures
    (rw c.started.ensures at c.in_ok-new_work.ensures) (rw c.in_ok-id.ensures at c.new.ensures) refl refl c.in_ok-new_aside.ensures
