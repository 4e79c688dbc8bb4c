use Rattle.node_copies.proofs.Chained.{chain_shows}
use Rattle.node_copies.proofs.laws.chain_shows_base.Goals as goal

pub returns : goal.returns
returns c = λ nodes base top place n joined told block inside held. chain_shows nodes joined told base place n block top inside held
