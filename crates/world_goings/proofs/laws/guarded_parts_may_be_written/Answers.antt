use Rattle.world_goings.proofs.Guarding.{guards_free}
use Rattle.world_goings.proofs.laws.guarded_parts_may_be_written.Goals as goal

pub returns : goal.returns
returns c = λ w v drive op row target block part whole did inside fits. guards_free w v drive op row target block whole did part inside fits
