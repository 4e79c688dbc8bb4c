use Rattle.world_goings.proofs.Guarding.{guards_comes}
use Rattle.world_goings.proofs.Settles.{settles_comes}
use Rattle.world_goings.proofs.Takes.{takes_comes}
use Rattle.world_goings.proofs.laws.copies_keep_worlds_coming.Goals as goal

pub returns-clause-takes : goal.returns-clause-takes
returns-clause-takes c = λ o w v row buffer answer comes whole did. takes_comes o w v row buffer answer whole did comes

pub returns-clause-settles : goal.returns-clause-settles
returns-clause-settles c = λ o w v row target t bytes answer comes whole joined read did.
    settles_comes o w v row target t bytes answer whole joined did read comes

pub returns-clause-guards : goal.returns-clause-guards
returns-clause-guards c = λ o w v drive op row target block comes whole joined files did.
    guards_comes w v drive op row target block whole did o joined files comes
