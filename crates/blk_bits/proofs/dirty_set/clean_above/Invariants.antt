use Rattle.std.proofs.Common.{◌≡◌, ℕ, suc, ◌<◌, ◌≤◌, [], false, length, get_or, replicate}
use Rattle.blk_bits.specs.Words.{kept_at, word_count}
use Rattle.blk_bits.proofs.dirty_set.clean_above.Given as goal

-- the levels so far, and how many truth values the next one is to keep
abbrev pub invariant-loop-words : goal.invariant-loop-words
invariant-loop-words l = record {
  kept : (k : ℕ) → k < length l.levels.items → get_or l.levels.items k [] ≡ kept_at (replicate l.granules false) (suc k);
  several : (k : ℕ) → k < length l.levels.items → 1 < word_count (length (kept_at (replicate l.granules false) k));
  next : l.words ≡ word_count (length (kept_at (replicate l.granules false) (length l.levels.items)));
}

abbrev pub decreases-loop-words : goal.decreases-loop-words
decreases-loop-words l = l.words
