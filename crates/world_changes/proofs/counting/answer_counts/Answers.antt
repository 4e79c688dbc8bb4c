use Rattle.std.proofs.Common.{List, ℕ, map, Ok, sym, ◌∙◌, subst}
use Rattle.std.specs.Prelude.{IfOk, string_bytes}
use Rattle.qmp_codec.specs.Commands.{Cmd, seen_command}
use Rattle.qmp_rules.specs.Table.{RunTable}
use Rattle.qmp_rules.specs.Answers.{returned, told_none}
use Rattle.flat_machine.specs.Bitmaps.{dirty_in}
use Rattle.flat_machine.specs.Marking.{dirty_bytes}
use Rattle.world_parts.specs.Carrying.{with_counts}
use Rattle.world_parts.specs.Saying.{IsSaid}
use Rattle.world_changes.proofs.CarryInTable.{accepted_changes, counted_said, counted_refused_said, prints-stays, refused_unchanged}
use Rattle.world_changes.proofs.counting.answer_counts.Goals as goal

pub returns-in-Ok-clause-said : goal.returns-in-Ok-clause-said
returns-in-Ok-clause-said c =
    let command : Cmd = seen_command c.args.command.now in
    let ds : List ℕ = map dirty_bytes (map dirty_in c.args.bitmaps.now) in
    let said = subst (λ (t : RunTable). IfOk c.accept_counts.result
    (λ text. IsSaid c.args.given.now (Ok (returned t (with_counts told_none ds) command)) (string_bytes text)))
    c.prepare.ensures.table c.accept_counts.ensures.said in
    counted_said c.args.names.now.table command ds string_bytes c.args.given.now c.accept_counts.result c.in-Ok.ensures.accepted said

pub returns-in-Ok-clause-changed : goal.returns-in-Ok-clause-changed
returns-in-Ok-clause-changed c =
    let e = accepted_changes c.args.names.now.table (seen_command c.args.command.now) c.in-Ok.ensures.accepted
    ∙ sym c.in-Ok.ensures.edits in
    rw (e, ← c.prepare.ensures.table) c.accept_counts.ensures.changed

pub returns-in-Err-clause-said : goal.returns-in-Err-clause-said
returns-in-Err-clause-said c =
    counted_refused_said c.args.names.now.table
    (seen_command c.args.command.now) (map dirty_bytes (map dirty_in c.args.bitmaps.now)) string_bytes c.args.given.now c.refused.result c.in-Err.stop
    (prints-stays (seen_command c.args.command.now) c.requires.prints) c.in-Err.ensures.refused c.refused.ensures

pub returns-in-Err-clause-changed : goal.returns-in-Err-clause-changed
returns-in-Err-clause-changed c =
    rw c.prepare.ensures.table
    (refused_unchanged c.args.names.now.table
    (seen_command c.args.command.now) string_bytes c.args.given.now c.refused.result c.in-Err.stop (prints-stays (seen_command c.args.command.now) c.requires.prints)
    c.in-Err.ensures.refused c.refused.ensures)
