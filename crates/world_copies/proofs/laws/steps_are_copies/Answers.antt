use Rattle.world_copies.proofs.Steps.{guards_block, settles_block, takes_block}
use Rattle.world_copies.proofs.laws.steps_are_copies.Goals as goal

pub returns-clause-takes : goal.returns-clause-takes
returns-clause-takes c = λ w v row buffer answer whole step disks. takes_block w v row buffer answer whole step disks

pub returns-clause-settles : goal.returns-clause-settles
returns-clause-settles c = λ w v row target t bytes answer whole step is writes. settles_block w v row target t bytes answer whole step is writes

pub returns-clause-guards : goal.returns-clause-guards
returns-clause-guards c = λ w v drive op row target block whole step done_for is writes. guards_block w v drive op row target block whole step done_for is writes
