use Rattle.std.proofs.Common.{◌∙◌, ap, subst, sym}
use Rattle.flat_machine.specs.Marks.{Drained}
use Rattle.qmp_codec.specs.Commands.{seen_command}
use Rattle.world_jobs.specs.Plans.{seen_plan}
use Rattle.world_jobs.specs.Starting.{start_scene}
use Rattle.world_jobs.proofs.StartBehind.{later_so, starts_so}
use Rattle.world_jobs.proofs.starting.start_or_wait.Goals as goal

pub returns-in-Some-clause-ok : goal.returns-in-Some-clause-ok
returns-in-Some-clause-ok g c = λ s copy table guests seen planned.
    let first = rw c.in-Some.is at (c.in_ok-way.ensures.first s table guests) in
    let held = rw c.in-Some.is at c.in_ok-way.ensures.held in
    later_so s copy (seen_command c.args.command.now) (seen_plan c.args.plan) (start_scene c.args.names.now.table c.args.nodes.now c.args.drained.now) _ _ _ seen planned
    c.requires.accepted first (ap (λ (drains : Drained). start_scene c.args.names.now.table c.args.nodes.now drains) held)

pub returns-in-None-clause-ok : goal.returns-in-None-clause-ok
returns-in-None-clause-ok g c =
    starts_so c.args.given.now (seen_command c.args.command.now) (seen_plan c.args.plan) c.args.bitmaps.now c.args.names.now.table c.accept.new.names.table c.args.nodes.now
    c.accept.new.nodes c.args.drained.now _ c.args.progress.now.guests c.accept.result c.accept.ensures.ok c.requires.accepted
    (λ s table guests. rw c.in-None.is at (c.in_ok-way.ensures.first s table guests)) (rw c.in-None.is at c.in_ok-way.ensures.held)
