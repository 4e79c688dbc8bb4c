use Rattle.chain_copies.proofs.StreamOwn.{ahead_stays, ahead_with_more, ahead_written}
use Rattle.chain_copies.proofs.streams.streams_stay.Goals as goal

pub returns-clause-kept : goal.returns-clause-kept
returns-clause-kept c = λ old new top base work keeps below goal'. ahead_stays old new top base keeps below goal' work

pub returns-clause-written : goal.returns-clause-written
returns-clause-written c = ahead_written

pub returns-clause-more : goal.returns-clause-more
returns-clause-more c = ahead_with_more
