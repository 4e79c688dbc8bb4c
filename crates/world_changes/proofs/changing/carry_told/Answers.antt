use Rattle.std.proofs.Common.{◌≡◌, sym, ◌∙◌, ap, subst}
use Rattle.qmp_codec.specs.Commands.{Cmd, seen_command}
use Rattle.qmp_rules.specs.Answers.{command_edits}
use Rattle.qmp_rules.specs.Changes.{all_changed}
use Rattle.qmp_rules.specs.Fitting.{AllChangesFit}
use Rattle.qmp_rules.specs.Table.{RunTable, kinds_of}
use Rattle.qmp_rules.specs.declared.told.Told.{Told}
use Rattle.blk_nodes.specs.Rewiring.{IsWiring}
use Rattle.world_changes.specs.Changing.{scene}
use Rattle.world_changes.proofs.ChangesReady.{accepted_wiring}
use Rattle.world_changes.proofs.ChangesSaid.{stop_so}
use Rattle.world_changes.proofs.changing.carry_told.Goals as goal

pub carry_or_wait-requires-clause-wiring : goal.carry_or_wait-requires-clause-wiring
carry_or_wait-requires-clause-wiring g c =
    let t : RunTable = c.args.names.now.table in
    let told : Told = c.args.told.now in
    let seen : Cmd = seen_command c.args.command.now in
    let fit : AllChangesFit t (command_edits t told seen) =
    subst (AllChangesFit t) c.in-Ok.ensures.edits (subst (λ (names : RunTable). AllChangesFit names c.in-Ok.edits) c.in-Ok.ensures.table c.in-Ok.ensures.fit) in
    let same : all_changed c.prepare.new.self.table c.in-Ok.edits ≡ all_changed t (command_edits t told seen) =
    ap (λ (names : RunTable). all_changed names c.in-Ok.edits) c.in-Ok.ensures.table ∙ ap (all_changed t) c.in-Ok.ensures.edits in
    subst (λ (u : RunTable). IsWiring c.args.nodes.now (kinds_of u.nodes) u.edges) (sym same)
    (accepted_wiring t c.args.nodes.now told seen c.requires.is c.requires.rests c.requires.alike c.requires.joined c.in-Ok.ensures.accepted fit)

pub returns-in_ok-text-in-Err-clause-ok : goal.returns-in_ok-text-in-Err-clause-ok
returns-in_ok-text-in-Err-clause-ok g c = λ s table guests.
    stop_so s c.args.given.now (seen_command c.args.command.now)
    (scene c.args.names.now.table c.args.nodes.now c.args.drained.now c.args.bitmaps.now) _ c.args.told.now c.requires.tells c.requires.is _ c.in-Err.stop
    c.in-Err.ensures.refused (ap (λ (t : RunTable). scene t c.args.nodes.now c.args.drained.now c.args.bitmaps.now) c.in-Err.ensures.table)
    c.in_ok-text-in-Err.ensures
