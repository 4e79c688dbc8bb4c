use Rattle.std.proofs.Common.{◌≡◌, ◌≤◌, ℕ, suc, List, Option, None, Some, length, vec_capacity}
use Rattle.std.specs.Option.{option_copied}
use Rattle.blk_runs.specs.Runs.{Run, bytes_of_runs}
use Rattle.blk_runs.specs.Reading.{words_behind}
use Rattle.blk_runs.proofs.ReadBack.{HasReadRuns}
use Rattle.blk_runs.proofs.reading.read_bytes.Given as goal

abbrev pub invariant-loop-rest : goal.invariant-loop-rest
invariant-loop-rest l = record {
  front : List Run;
  reads : HasReadRuns l.text front (words_behind (option_copied l.rest));
  items : l.bytes.items ≡ bytes_of_runs front;
  room : l.len ≤ vec_capacity l.bytes;
}

-- what is left behind a space counts one more than its bytes
abbrev bytes_left : Option (List ℕ) → ℕ
bytes_left None = 0
bytes_left (Some bytes) = suc (length bytes)

abbrev pub decreases-loop-rest : goal.decreases-loop-rest
decreases-loop-rest l = bytes_left (option_copied l.rest)
