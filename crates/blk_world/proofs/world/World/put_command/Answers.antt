use Rattle.qmp_codec.specs.Commands.{seen_command}
use Rattle.blk_world.proofs.CarryBack.{back_by_on}
use Rattle.blk_world.proofs.world.World.put_command.Goals as goal

pub returns-in_err-copy-clause-back : goal.returns-in_err-copy-clause-back
returns-in_err-copy-clause-back g c = back_by_on c.from_residual.result c.args.self.now (seen_command c.args.command)
