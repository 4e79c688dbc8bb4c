use Rattle.block_jobs.proofs.Ahead.{source_may_change}
use Rattle.block_jobs.proofs.laws.source_may_change.Goals as goal

pub returns : goal.returns
returns c = source_may_change
