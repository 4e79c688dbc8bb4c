use Rattle.std.proofs.Common.{◌≡◌, ℕ, ◌<◌, ◌≤◌, ◌^◌, get_or}
use Rattle.std.specs.Int.Bits.{bit_or}
use Rattle.blk_bits.proofs.level.join.Given as goal

-- the words so far are joined, and the others as they were
abbrev pub invariant-loop-k : goal.invariant-loop-k
invariant-loop-k l = record {
  joined : (i : ℕ) → i < l.k → get_or l.words i 0 ≡ bit_or (get_or l.initial.words i 0) (get_or l.other i 0);
  others : (i : ℕ) → l.k ≤ i → get_or l.words i 0 ≡ get_or l.initial.words i 0;
  fits : (i : ℕ) → get_or l.words i 0 < 2 ^ 64;
}
