use Rattle.std.proofs.Common.{◌≡◌, None, refl, ◌∙◌, ap, subst}
use Rattle.std.specs.Prelude.{string_bytes}
use Rattle.qmp_codec.specs.Commands.{Cmd, seen_command}
use Rattle.qmp_rules.specs.Answers.{command_edits, refusal_to, told_none}
use Rattle.qmp_rules.specs.Changes.{all_changed}
use Rattle.qmp_rules.specs.Table.{RunTable}
use Rattle.qmp_rules.specs.declared.told.Told.{Told}
use Rattle.world_parts.specs.Deleting.{ground_in}
use Rattle.world_files.specs.Deletions.{IsDeletedBy}
use Rattle.world_parts.proofs.Handled.{handled_accepted, handled_stop}
use Rattle.world_files.proofs.DeletedHandled.{deletion_leaves}
use Rattle.world_files.proofs.deleting.delete.Goals as goal

pub returns-in-Ok-clause-handled : goal.returns-in-Ok-clause-handled
returns-in-Ok-clause-handled g c =
    let t : RunTable = c.args.names.now.table in
    let seen : Cmd = seen_command c.args.command.now in
    let none : refusal_to t told_none seen ≡ None = rw c.nothing-told.ensures at c.in-Ok.ensures.accepted in
    let table : c.apply.new.self.table ≡ all_changed t (command_edits t told_none seen) =
    c.apply.ensures
    ∙ ap (λ (names : RunTable). all_changed names c.in-Ok.edits) c.in-Ok.ensures.table
    ∙ ap (all_changed t) (c.in-Ok.ensures.edits ∙ ap (λ (told : Told). command_edits t told seen) c.nothing-told.ensures) in
    handled_accepted _ t seen _ _ _ _ none table
    (subst (λ (names : RunTable). IsDeletedBy names seen (ground_in c.args.store.now c.args.nodes.now) (ground_in c.drop_by.new.store c.drop_by.new.nodes))
    c.in-Ok.ensures.table c.drop_by.ensures.deleted)
    (rw (c.in-Ok.ensures.table, c.nothing-told.ensures) at c.in_ok-text-in-Ok.ensures)

pub returns-clause-handled : goal.returns-clause-handled
returns-clause-handled g c =
    handled_stop c.refused.result string_bytes _ _ _ _ _ _ c.in-Err.stop (rw c.nothing-told.ensures at c.in-Err.ensures.refused) c.refused.ensures
    c.in-Err.ensures.table refl (λ cause. deletion_leaves c.args.names.now.table (seen_command c.args.command.now) cause c.requires.deletion)
