use Rattle.std.proofs.Common.{◌≡◌, ◌+◌, ◌*◌, ◌≤◌, ◌++◌, length}
use Rattle.blk_base.specs.Written.{memory_of}
use Rattle.blk_runs.specs.Runs.{runs_text}
use Rattle.blk_runs.proofs.push_runs.Given as goal

-- What is written and the runs of what is left are all the runs. There is room for them, and no more went than five
-- bytes for each byte.
abbrev pub invariant-loop-byte : goal.invariant-loop-byte
invariant-loop-byte l = record {
  written : l.out.bytes ++ runs_text l.rest ≡ l.fn.out.bytes ++ runs_text l.bytes;
  room : 5 * length l.rest ≤ l.out.spare;
  memory : memory_of l.fn.out ≤ memory_of l.out;
  used : l.fn.out.spare + 5 * length l.rest ≤ l.out.spare + 5 * length l.bytes;
}

abbrev pub decreases-loop-byte : goal.decreases-loop-byte
decreases-loop-byte l = length l.rest
