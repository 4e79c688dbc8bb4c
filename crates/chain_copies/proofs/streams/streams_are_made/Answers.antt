use Rattle.chain_copies.proofs.StreamEnds.{made_alone, rebased_readings, rewired_rebased}
use Rattle.chain_copies.proofs.streams.streams_are_made.Goals as goal

pub returns-clause-alone : goal.returns-clause-alone
returns-clause-alone c = λ nodes top file base work joined told image edge whole none ahead.
    made_alone nodes top joined image told base work whole none ahead file edge

pub returns-clause-rewired : goal.returns-clause-rewired
returns-clause-rewired c = rewired_rebased

pub returns-clause-rebased : goal.returns-clause-rebased
returns-clause-rebased c = λ old new top file base joined image edge alone is.
    rebased_readings old new top file base joined image edge alone is
