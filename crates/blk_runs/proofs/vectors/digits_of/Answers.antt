use Rattle.blk_runs.proofs.SixteenLanes.{digits-in-turn}
use Rattle.blk_runs.proofs.vectors.digits_of.Goals as goal

pub returns : goal.returns
returns c = digits-in-turn c.args.bytes c.fits-bytes.0
