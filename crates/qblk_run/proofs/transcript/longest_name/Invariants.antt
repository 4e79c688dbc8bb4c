use Rattle.std.proofs.Common.{ℕ, ◌<◌, ◌≤◌, [], length}
use Rattle.std.specs.Prelude.{get_or}
use Rattle.qblk_run.proofs.transcript.longest_name.Given as goal

-- none of the first is longer
abbrev pub invariant-loop-place : goal.invariant-loop-place
invariant-loop-place l = (k : ℕ) → k < l.place → length (get_or l.names k []) ≤ l.longest
