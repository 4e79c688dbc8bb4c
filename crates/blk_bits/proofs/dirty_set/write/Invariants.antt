use Rattle.std.proofs.Common.{◌≡◌, ℕ, suc, ◌<◌, ◌≤◌, [], length, get_or}
use Rattle.blk_bits.specs.Words.{kept_at, with_written}
use Rattle.blk_bits.proofs.dirty_set.write.Given as goal

-- the levels so far keep what is to be kept, the others what they kept, and in the next one a span is still to be written
abbrev pub invariant-loop-level : goal.invariant-loop-level
invariant-loop-level l = record {
  done : (k : ℕ) → k < l.level-index → get_or l.above k [] ≡ kept_at l.members (suc k);
  others : (k : ℕ) → l.level-index ≤ k → get_or l.above k [] ≡ get_or l.fn.above k [];
  next : kept_at l.members (suc l.level-index) ≡ with_written (kept_at l.fn.members (suc l.level-index)) l.turned.from l.turned.to l.value;
  order : l.turned.from ≤ l.turned.to;
  within : l.turned.to ≤ length (kept_at l.fn.members (suc l.level-index));
}
