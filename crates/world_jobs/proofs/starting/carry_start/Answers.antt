use Rattle.std.proofs.Common.{◌≡◌, None, ap, sym, subst}
use Rattle.job_commands.specs.Begun.{cmd_of}
use Rattle.qmp_rules.specs.Answers.{refusal_to, told_none}
use Rattle.qmp_rules.specs.Table.{RunTable}
use Rattle.world_jobs.specs.Plans.{Plan, seen_plan}
use Rattle.world_jobs.specs.Starting.{CanStart, StartFits, start_scene}
use Rattle.world_jobs.proofs.StartBehind.{refused_so}
use Rattle.world_jobs.proofs.StartReady.{can_start, start_fits}
use Rattle.world_jobs.proofs.starting.carry_start.Goals as goal

pub start_or_wait-requires-clause-can : goal.start_or_wait-requires-clause-can
start_or_wait-requires-clause-can g c =
    let x = c.requires.command in
    let none : refusal_to c.args.names.now.table told_none (cmd_of x.0) ≡ None = rw (c.nothing-told.ensures, x.1) at c.in-Ok.ensures.accepted in
    subst (λ (u : RunTable). CanStart u c.args.bitmaps.now (seen_plan c.args.plan)) (sym c.in-Ok.ensures.table)
    (subst (CanStart c.args.names.now.table c.args.bitmaps.now) (sym x.2)
    (can_start c.args.names.now.table c.requires.rests c.requires.jobs x.0 none c.args.bitmaps.now c.requires.bitmaps))

pub start_or_wait-requires-clause-fits : goal.start_or_wait-requires-clause-fits
start_or_wait-requires-clause-fits g c = λ copy seen planned.
    let none : refusal_to c.args.names.now.table told_none (cmd_of copy) ≡ None = rw (c.nothing-told.ensures, seen) at c.in-Ok.ensures.accepted in
    subst (λ (u : RunTable). StartFits u c.args.nodes.now copy (seen_plan c.args.plan)) (sym c.in-Ok.ensures.table)
    (subst (StartFits c.args.names.now.table c.args.nodes.now copy) (sym planned)
    (start_fits c.args.names.now.table c.requires.rests c.requires.jobs copy none c.args.nodes.now c.requires.alike c.edges.ensures.joined))

pub returns-clause-ok : goal.returns-clause-ok
returns-clause-ok g c = λ s copy table guests seen planned.
    refused_so c.args.given.now (cmd_of copy) (start_scene c.args.names.now.table c.args.nodes.now c.args.drained.now) _ _ c.in-Err.stop
    (rw (c.nothing-told.ensures, seen) at c.in-Err.ensures.refused)
    (ap (λ (t : RunTable). start_scene t c.args.nodes.now c.args.drained.now) c.in-Err.ensures.table) c.in_ok-text-in-Err.ensures
