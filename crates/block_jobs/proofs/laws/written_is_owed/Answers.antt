use Rattle.block_jobs.proofs.Ahead.{written_is_owed}
use Rattle.block_jobs.proofs.laws.written_is_owed.Goals as goal

pub returns : goal.returns
returns c = written_is_owed
