use Rattle.chain_copies.proofs.CommitsPut.{put_next}
use Rattle.chain_copies.proofs.commits.commits_put_of_their_tops.Goals as goal

pub returns : goal.returns
returns c = λ must old new was now top base answer joined told may size is.
    put_next old new base top joined told may was now size must answer is
