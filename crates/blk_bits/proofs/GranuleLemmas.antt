-- Sets of granules by their members.
use Rattle.std.proofs.Common.{◌≡◌, ℕ, ◌<◌, Bool, false, arith}
use Rattle.std.proofs.lemmas.List.FromFn.{get_or-map-range_with_len}
use Rattle.blk_bits.specs.Granules.{contains, those_below}

-- a number below the count is a member where it passes the test
pub contains-those_below : (n : ℕ) (test : ℕ → Bool) (k : ℕ) → k < n → contains (those_below n test) k ≡ test k
contains-those_below n test k below = get_or-map-range_with_len test 0 n k k false below (omega arith)
