use Rattle.std.proofs.Common.{◌≡◌, ℕ, suc, ◌<◌, ◌≤◌, [], length, get_or}
use Rattle.blk_bits.specs.Words.{kept_at, either}
use Rattle.blk_bits.proofs.dirty_set.add_all.Given as goal

-- the levels so far keep what is to be kept, the others what they kept
abbrev pub invariant-loop-k : goal.invariant-loop-k
invariant-loop-k l = record {
  done : (j : ℕ) → j < l.k → get_or l.above j [] ≡ kept_at l.members (suc j);
  others : (j : ℕ) → l.k ≤ j → get_or l.above j [] ≡ get_or l.fn.above j [];
  next : kept_at l.members (suc l.k) ≡ either (kept_at l.fn.members (suc l.k)) (kept_at l.other (suc l.k));
}
