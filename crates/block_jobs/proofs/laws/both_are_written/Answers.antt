use Rattle.block_jobs.proofs.Ahead.{both_are_written}
use Rattle.block_jobs.proofs.laws.both_are_written.Goals as goal

pub returns : goal.returns
returns c = both_are_written
