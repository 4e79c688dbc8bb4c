use Rattle.std.proofs.Common.{◌≡◌, ℕ, ◌<◌, false, get_or}
use Rattle.q2_format.specs.Entry.{block_offset}
use Rattle.q2_format.specs.Sound.{is_misplaced}
use Rattle.q2_refs.proofs.entries.first_misplaced.Given as goal

abbrev pub invariant-loop-word : goal.invariant-loop-word
invariant-loop-word l = (k : ℕ) → k < l.word-index → is_misplaced l.c l.len (block_offset (get_or l.table k 0)) ≡ false
