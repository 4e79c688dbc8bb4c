use Rattle.chain_copies.proofs.StreamOwn.{begins_ahead, begun_ahead}
use Rattle.chain_copies.proofs.streams.streams_begin.Goals as goal

pub returns-clause-all : goal.returns-clause-all
returns-clause-all c = begins_ahead

pub returns-clause-begun : goal.returns-clause-begun
returns-clause-begun c = begun_ahead
