use Rattle.chain_copies.proofs.CommitsLinked.{images_linked, linked_apart, linked_ends}
use Rattle.chain_copies.proofs.commits.links_are_chains.Goals as goal

pub returns-clause-ends : goal.returns-clause-ends
returns-clause-ends c = λ nodes top base between joined linked. linked_ends nodes joined base top between linked

pub returns-clause-apart : goal.returns-clause-apart
returns-clause-apart c = λ nodes top base between joined linked. linked_apart nodes joined base top between linked

pub returns-clause-images : goal.returns-clause-images
returns-clause-images c = images_linked
