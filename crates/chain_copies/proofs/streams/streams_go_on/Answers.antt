use Rattle.chain_copies.proofs.StreamSteps.{goes_on}
use Rattle.chain_copies.proofs.streams.streams_go_on.Goals as goal

pub returns : goal.returns
returns c = λ old new was now top base answer joined told work image may whole over passes none ahead.
    goes_on old new was now top base joined told work image may whole over none ahead answer passes
