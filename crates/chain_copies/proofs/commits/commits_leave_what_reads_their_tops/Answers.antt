use Rattle.chain_copies.proofs.CommitsLeft.{rest_left}
use Rattle.chain_copies.proofs.commits.commits_leave_what_reads_their_tops.Goals as goal

pub returns : goal.returns
returns c = λ old new base top node joined now may ends apart puts free.
    rest_left old new base top joined now may puts ends apart node free
