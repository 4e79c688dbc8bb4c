use Rattle.world_copies.proofs.Wholes.{guards_whole, settles_whole, takes_whole}
use Rattle.world_copies.proofs.laws.copies_keep_worlds_whole.Goals as goal

pub returns-clause-takes : goal.returns-clause-takes
returns-clause-takes c = λ w v row buffer answer whole did. takes_whole w v row buffer answer whole did

pub returns-clause-settles : goal.returns-clause-settles
returns-clause-settles c = λ w v row target t bytes answer whole files did. settles_whole w v row target t bytes answer whole files did

pub returns-clause-guards : goal.returns-clause-guards
returns-clause-guards c = λ w v drive op row target block whole files did. guards_whole w v drive op row target block whole files did
