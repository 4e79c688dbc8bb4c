use Rattle.std.proofs.Common.{◌≡◌, ◌<◌, ◌≤◌, ◌-◌, ℕ, false}
use Rattle.block_jobs.specs.Work.{block_count, is_next}
use Rattle.block_jobs.proofs.work.JobWork.next_block.Given as goal

abbrev pub invariant-loop-part : goal.invariant-loop-part
invariant-loop-part l = (l.seen ≤ block_count l.self.size) × ((b : ℕ) → b < l.seen → is_next l.self b ≡ false)

abbrev pub decreases-loop-part : goal.decreases-loop-part
decreases-loop-part l = block_count l.self.size - l.seen
