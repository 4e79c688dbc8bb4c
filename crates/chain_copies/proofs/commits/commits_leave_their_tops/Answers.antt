use Rattle.chain_copies.proofs.CommitsLeft.{chain_left, top_left}
use Rattle.chain_copies.proofs.commits.commits_leave_their_tops.Goals as goal

pub returns-clause-top : goal.returns-clause-top
returns-clause-top c = λ old new base top joined now may ends puts. top_left old new base top joined now may puts ends

pub returns-clause-between : goal.returns-clause-between
returns-clause-between c = λ old new base top node joined now may ends puts. chain_left old new base top joined now may puts node ends
