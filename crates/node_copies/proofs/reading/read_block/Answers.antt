use Rattle.node_copies.proofs.Puts.{told_risen}
use Rattle.node_copies.proofs.reading.read_block.Goals as goal

pub returns-clause-told : goal.returns-clause-told
returns-clause-told g c = λ told. told_risen c.args.nodes.now c.peek_piece-read.new.self c.edges.ensures.joined c.peek_piece-read.ensures.devices told
