use Rattle.qmp_codec.specs.Commands.{seen_command}
use Rattle.world_parts.proofs.CarryTexts.{returned_plain}
use Rattle.world_parts.proofs.answering.accepted_text.Goals as goal

pub given_text-requires : goal.given_text-requires
given_text-requires c =
    rw c.in_ok-value.ensures (returned_plain c.args.names.now.table c.args.told.now (seen_command c.args.command.now))
