use Rattle.job_chains.proofs.LentEnds.{chain_suits}
use Rattle.job_chains.proofs.lent.chains_suit_to_end.Goals as goal

pub returns : goal.returns
returns c = λ s row h j run files lent g here chain sizes rebased. chain_suits s row h j run files lent g here chain sizes rebased
