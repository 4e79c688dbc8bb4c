use Rattle.std.proofs.Common.{Bool, ℕ, sym, ◌∙◌, ap}
use Rattle.blk_bitmaps.specs.Calls.{rows_after_call, Release}
use Rattle.flat_machine.specs.Jobs.{outcome_of}
use Rattle.qmp_rules.specs.Ends.{drops_aside}
use Rattle.world_jobs.proofs.EndParts.{number_at, work_there}
use Rattle.world_jobs.proofs.running.RunningJobs.end.Goals as goal

pub remove-room-requires : goal.remove-room-requires
remove-room-requires g c = work_there c.args.names.now.table c.args.nodes.now c.args.self.now c.args.progress.now c.args.why c.args.job c.requires.can

pub returns-clause-bitmaps : goal.returns-clause-bitmaps
returns-clause-bitmaps g c = λ row is.
    let job = number_at c.args.names.now.table c.args.job row is in
    c.release.ensures ∙ ap (λ (drops : Bool). rows_after_call c.args.bitmaps.now (Release c.args.job drops)) (c.planned_at-end.ensures row is).drops
    ∙ ap (λ (n : ℕ). rows_after_call c.args.bitmaps.now (Release n (drops_aside (outcome_of c.args.why) row.bitmap))) (sym job)
