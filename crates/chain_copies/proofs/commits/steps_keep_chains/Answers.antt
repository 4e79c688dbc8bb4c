use Rattle.node_copies.proofs.Puts.{may_still, size_kept}
use Rattle.chain_copies.proofs.CommitsKept.{aside_kept, below_kept, ends_kept, kinds_kept, links_kept}
use Rattle.chain_copies.proofs.commits.steps_keep_chains.Goals as goal

pub returns-clause-ends : goal.returns-clause-ends
returns-clause-ends c = λ old new node top base kept. ends_kept old new node kept base top

pub returns-clause-links : goal.returns-clause-links
returns-clause-links c = λ old new node top ids kept linked. links_kept old new node kept top ids linked

pub returns-clause-sizes : goal.returns-clause-sizes
returns-clause-sizes c = λ old new node other kept. size_kept old new node kept other

pub returns-clause-may : goal.returns-clause-may
returns-clause-may c = λ old new node kept may. may_still old new node kept may

pub returns-clause-aside : goal.returns-clause-aside
returns-clause-aside c = λ old new node base top other kept. aside_kept old new node kept base top other

pub returns-clause-kinds : goal.returns-clause-kinds
returns-clause-kinds c = λ old new node other kept. kinds_kept old new node kept other

pub returns-clause-below : goal.returns-clause-below
returns-clause-below c = λ old new node other kept. below_kept old new node kept other
