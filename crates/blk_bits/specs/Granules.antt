-- A set of numbers below a fixed count, seen as the truth value of each of these numbers, and what the calls
-- of a dirty set make of it.
use Rattle.std.specs.Prelude.{◌≡◌, ℕ, zero, suc, ◌+◌, ◌*◌, ◌<◌, ◌≤◌, Bool, true, false, not, ◌&&◌, ◌||◌, nat_le, nat_lt, List, length, map, slice_index_or, count_by}
use Rattle.std.specs.List.{range_with_len}
use Rattle.blk_bits.specs.declared.ratio.Ratio.{Ratio}

-- whether a number is a member
abbrev pub contains : List Bool → ℕ → Bool
contains set k = slice_index_or set k false

-- how many members there are
abbrev pub member_count : List Bool → ℕ
member_count set = count_by (λ member. member) set

-- the numbers below a count that pass a test
abbrev pub those_below : ℕ → (ℕ → Bool) → List Bool
those_below count test = map test (range_with_len 0 count)

-- from..to
abbrev pub in_span : ℕ → ℕ → ℕ → Bool
in_span from to k = nat_le from k && nat_lt k to

abbrev pub with_span : List Bool → ℕ → ℕ → List Bool
with_span set from to = those_below (length set) (λ k. contains set k || in_span from to k)

abbrev pub without_span : List Bool → ℕ → ℕ → List Bool
without_span set from to = those_below (length set) (λ k. contains set k && not (in_span from to k))

-- granule k of the one size shares a unit with granule j of the other
abbrev pub overlaps : Ratio → ℕ → ℕ → Bool
overlaps ratio k j =
    nat_lt (ratio.mine * k) (ratio.theirs * (j + 1))
    && nat_lt (ratio.theirs * j) (ratio.mine * (k + 1))

-- granule k does so with one of the members below a number
abbrev pub overlaps_member : Ratio → List Bool → ℕ → ℕ → Bool
overlaps_member ratio other k zero = false
overlaps_member ratio other k (suc j) =
    (contains other j && overlaps ratio k j) || overlaps_member ratio other k j

-- a set with every granule that overlaps a member of the other
abbrev pub merged : Ratio → List Bool → List Bool → List Bool
merged ratio set other =
    those_below (length set) (λ k. contains set k || overlaps_member ratio other k (length other))

-- the least member from a number on
pub record LeastFrom (set : List Bool) (from least : ℕ) : Type 0 where
  pub reached : from ≤ least
  pub member : contains set least ≡ true
  pub first : (k : ℕ) → from ≤ k → k < least → contains set k ≡ false

-- no member is as large
abbrev pub HasNoneFrom : List Bool → ℕ → Type 0
HasNoneFrom set from = (k : ℕ) → from ≤ k → contains set k ≡ false
