use Rattle.world_rows.proofs.Calls.{made_now, retired_now}
use Rattle.world_rows.proofs.Ready.{over_now}
use Rattle.world_rows.proofs.play.make.Goals as goal

pub retire-requires : goal.retire-requires
retire-requires c =
    over_now c.piece-outcome.new.self c.args.left
    (made_now c.args.world.now c.piece-outcome.new.self c.args.left c.piece-outcome.result c.piece-outcome.ensures.made c.requires)

pub returns : goal.returns
returns c =
    retired_now c.piece-outcome.new.self c.retire.new.self c.args.left c.retire.ensures.kept
    (made_now c.args.world.now c.piece-outcome.new.self c.args.left c.piece-outcome.result c.piece-outcome.ensures.made c.requires)
