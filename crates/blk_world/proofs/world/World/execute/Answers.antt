use Rattle.qmp_codec.specs.Lines.{command_at}
use Rattle.blk_world.proofs.CarryBack.{back_in_on, put_back_on, still_back}
use Rattle.blk_world.proofs.world.World.execute.Goals as goal

pub returns-in_err-command-clause-back : goal.returns-in_err-command-clause-back
returns-in_err-command-clause-back g c = put_back_on c.from_residual.result c.args.self.now

pub returns-in_err-command-clause-back_in : goal.returns-in_err-command-clause-back_in
returns-in_err-command-clause-back_in g c = back_in_on c.from_residual.result c.args.self.now (command_at c.args.text.now)

pub returns-in-Stop-clause-back : goal.returns-in-Stop-clause-back
returns-in-Stop-clause-back g c = still_back c.put_stop.result c.args.self.now c.put_stop.new.self c.put_stop.ensures.back
