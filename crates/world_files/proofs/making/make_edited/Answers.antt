use Rattle.std.specs.Prelude.{string_bytes}
use Rattle.qmp_codec.specs.Commands.{seen_command}
use Rattle.world_parts.specs.Deleting.{ground_in}
use Rattle.world_files.proofs.MadeHandled.{ended_saying}
use Rattle.world_files.proofs.making.make_edited.Goals as goal

pub returns-clause-ended : goal.returns-clause-ended
returns-clause-ended g c =
    ended_saying c.make_prepared.result string_bytes c.args.given.now c.args.names.now.table c.args.told.now (seen_command c.args.command.now)
    (ground_in c.args.store.now c.args.nodes.now) (ground_in c.make_prepared.new.store c.make_prepared.new.nodes) c.make_prepared.new.names.table
    c.args.edits c.args.spoiled _ _ c.in_ok-accepted.ensures.accepted c.in_ok-accepted.ensures.failed c.make_prepared.ensures.ended
