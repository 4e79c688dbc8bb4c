use Rattle.chain_copies.proofs.CommitsTurns.{end_sized}
use Rattle.chain_copies.proofs.commits.chains_are_of_one_size.Goals as goal

pub returns : goal.returns
returns c = λ nodes base top end joined ends. end_sized nodes joined base top end ends
