use Rattle.blk_runs.proofs.FirstRun.{written_all}
use Rattle.blk_runs.proofs.push_runs.Goals as goal

pub returns-clause-ok : goal.returns-clause-ok
returns-clause-ok c = written_all c.loop-byte.rest.now _ _ c.in_default.ensures.cases c.loop-byte.invariant.written
