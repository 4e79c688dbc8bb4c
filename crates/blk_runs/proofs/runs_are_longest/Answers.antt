use Rattle.blk_runs.proofs.Longest.{bytes_of-runs_of, AreLongest-runs_of, runs_of-bytes_of}
use Rattle.blk_runs.proofs.runs_are_longest.Goals as goal

pub returns-clause-whole : goal.returns-clause-whole
returns-clause-whole c = bytes_of-runs_of

pub returns-clause-longest : goal.returns-clause-longest
returns-clause-longest c = AreLongest-runs_of

pub returns-clause-only : goal.returns-clause-only
returns-clause-only c = runs_of-bytes_of
