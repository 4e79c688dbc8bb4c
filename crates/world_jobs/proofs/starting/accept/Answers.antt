use Rattle.std.proofs.Common.{◌≡◌, ◌∙◌, ap, subst}
use Rattle.std.specs.Prelude.{IfSome}
use Rattle.qmp_codec.specs.Commands.{seen_command}
use Rattle.qmp_rules.specs.Answers.{command_edits, told_none}
use Rattle.qmp_rules.specs.Changes.{all_changed}
use Rattle.qmp_rules.specs.Table.{node_named}
use Rattle.world_jobs.specs.Plans.{Plan, seen_plan}
use Rattle.world_jobs.specs.Starting.{CanStart, StartFits, name_of, shape_over}
use Rattle.world_jobs.proofs.StartBehind.{begins_behind, fits_so}
use Rattle.world_jobs.proofs.starting.accept.Goals as goal

pub started-requires-clause-filter : goal.started-requires-clause-filter
started-requires-clause-filter g c =
    let m = c.in_ok-memory.ensures in
    let x = c.requires.command in
    fits_so c.args.names.now.table c.args.nodes.now c.args.bitmaps.now (seen_command c.args.command.now) (seen_plan c.args.plan) c.requires.can x
    (c.requires.fits x.0 x.1 x.2) c.args.edits c.requires.edits _ m.filter m.fresh _ m.shape

pub returns-clause-ok : goal.returns-clause-ok
returns-clause-ok g c = λ copy seen planned.
    let m = c.in_ok-memory.ensures in
    begins_behind c.args.names.now.table c.args.nodes.now c.args.bitmaps.now copy
    (subst (CanStart c.args.names.now.table c.args.bitmaps.now) planned c.requires.can)
    (subst (StartFits c.args.names.now.table c.args.nodes.now copy) planned (c.requires.fits copy seen planned)) c.args.given.now
    c.started.new.names.table c.started.new.nodes _ _ c.started.result c.in_ok-memory.memory.text c.in_ok-memory.memory.new c.started.ensures.answer
    (c.started.ensures.table ∙ ap (all_changed c.args.names.now.table) (c.requires.edits ∙ ap (command_edits c.args.names.now.table told_none) seen))
    c.started.ensures.nodes (m.filter ∙ ap name_of planned)
    (subst (λ (p : Plan). IfSome (node_named c.args.names.now.table p.device) (λ row. c.in_ok-memory.memory.shape ≡ shape_over p.kind row)) planned m.shape)
    (rw seen at m.text) (m.new copy planned)
