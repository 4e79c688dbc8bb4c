use Rattle.std.proofs.Common.{◌≡◌, ◌≤◌, length, None, refl, sym, ◌∙◌, subst}
use Rattle.std.specs.Prelude.{string_bytes}
use Rattle.qmp_codec.specs.Commands.{Cmd, seen_command}
use Rattle.qmp_rules.specs.Answers.{refusal_to}
use Rattle.qmp_rules.specs.Table.{RunTable}
use Rattle.world_parts.specs.Deleting.{Ground, ground_in}
use Rattle.world_files.specs.Creations.{CanCreateBy}
use Rattle.world_parts.specs.Making.{told_first}
use Rattle.world_files.proofs.CreatedKept.{has_room_less}
use Rattle.world_files.proofs.MadeHandled.{creation_can, creation_fewer, made_ok, made_stop}
use Rattle.world_files.proofs.making.make.Goals as goal

pub make_edited-requires-clause-can : goal.make_edited-requires-clause-can
make_edited-requires-clause-can g c =
    let t : RunTable = c.args.names.now.table in
    let seen : Cmd = seen_command c.args.command.now in
    let x : Ground = ground_in c.args.store.now c.args.nodes.now in
    let first : c.in_ok-told.told ≡ told_first seen x.store.room = rw c.room.ensures at c.in_ok-told.ensures in
    let none : refusal_to t (told_first seen x.store.room) seen ≡ None = rw (c.prepare_failure.ensures.table, first) at c.in-Ok.ensures.accepted in
    subst (λ (u : RunTable). CanCreateBy u seen x) (sym (c.in-Ok.ensures.table ∙ c.prepare_failure.ensures.table))
    (creation_can t x seen c.requires.belong c.requires.creation none)

pub make_edited-requires-clause-spoiled_room : goal.make_edited-requires-clause-spoiled_room
make_edited-requires-clause-spoiled_room g c =
    let t : RunTable = c.args.names.now.table in
    let seen : Cmd = seen_command c.args.command.now in
    let fewer : length c.in_ok-spoiled.spoiled ≤ length c.in-Ok.edits =
    rw (c.in_ok-spoiled.ensures.edits, c.in-Ok.ensures.edits, c.prepare_failure.ensures.table) (creation_fewer t c.in_ok-told.told seen c.requires.creation) in
    has_room_less (length c.in-Ok.edits) (length c.in_ok-spoiled.spoiled) c.prepare.new.self c.in-Ok.ensures.room fewer

pub returns-in-Ok-clause-made : goal.returns-in-Ok-clause-made
returns-in-Ok-clause-made g c =
    let t : RunTable = c.args.names.now.table in
    let seen : Cmd = seen_command c.args.command.now in
    let x : Ground = ground_in c.args.store.now c.args.nodes.now in
    let first : c.in_ok-told.told ≡ told_first seen x.store.room = rw c.room.ensures at c.in_ok-told.ensures in
    made_ok c.make_edited.result string_bytes c.args.given.now t c.in_ok-told.told x (ground_in c.make_edited.new.store c.make_edited.new.nodes) c.make_edited.new.names.table
    seen c.in-Ok.edits c.in_ok-spoiled.spoiled c.requires.creation first (rw c.prepare_failure.ensures.table at c.in-Ok.ensures.accepted)
    (rw c.prepare_failure.ensures.table at c.in-Ok.ensures.edits) c.in_ok-spoiled.ensures.edits
    (rw (c.in-Ok.ensures.table, c.prepare_failure.ensures.table) at c.make_edited.ensures.ended)

pub returns-clause-made : goal.returns-clause-made
returns-clause-made g c =
    let t : RunTable = c.args.names.now.table in
    let seen : Cmd = seen_command c.args.command.now in
    let x : Ground = ground_in c.args.store.now c.args.nodes.now in
    let first : c.in_ok-told.told ≡ told_first seen x.store.room = rw c.room.ensures at c.in_ok-told.ensures in
    made_stop c.refused.result string_bytes c.args.given.now t c.in_ok-told.told x x c.prepare.new.self.table seen c.in-Err.stop c.requires.creation first
    (rw c.prepare_failure.ensures.table at c.in-Err.ensures.refused) c.refused.ensures (c.in-Err.ensures.table ∙ c.prepare_failure.ensures.table) refl
