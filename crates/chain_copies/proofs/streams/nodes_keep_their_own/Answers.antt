use Rattle.chain_copies.proofs.StreamOwn.{keeps_driver, keeps_read, keeps_renamed, keeps_written}
use Rattle.chain_copies.proofs.streams.nodes_keep_their_own.Goals as goal

pub returns-clause-written : goal.returns-clause-written
returns-clause-written c = keeps_written

pub returns-clause-read : goal.returns-clause-read
returns-clause-read c = keeps_read

pub returns-clause-renamed : goal.returns-clause-renamed
returns-clause-renamed c = keeps_renamed

pub returns-clause-others : goal.returns-clause-others
returns-clause-others c = keeps_driver
