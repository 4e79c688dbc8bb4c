use Rattle.std.proofs.Common.{◌-◌}
use Rattle.blk_runs.specs.Singles.{HasSingles}
use Rattle.blk_runs.proofs.singles.write_singles.Given as goal

-- so many runs are written
abbrev pub invariant-loop-count : goal.invariant-loop-count
invariant-loop-count l = HasSingles l.count l.bytes l.words

abbrev pub decreases-loop-count : goal.decreases-loop-count
decreases-loop-count l = 16 - l.count
