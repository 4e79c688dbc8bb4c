use Rattle.node_copies.proofs.Chained.{over_alone}
use Rattle.node_copies.proofs.laws.top_over_base_alone.Goals as goal

pub returns : goal.returns
returns c = λ nodes base top below file joined told is_image edge over ends each.
    over_alone nodes joined told base top below file is_image edge over ends each
