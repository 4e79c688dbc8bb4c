-- Sets of granules as the rows use them.
use Rattle.std.proofs.Common.{◌≡◌, ◌↔◌, ℕ, zero, suc, ◌+◌, ◌-◌, ◌*◌, ◌/◌, ◌<◌, ◌≤◌, min, Bool, true, false, not, ◌&&◌, ◌||◌, List, length, replicate, refl, sym, ◌∙◌, ap, arith, nat_lt, inl, inr}
use Rattle.std.proofs.Math.ListN.{get_or-eq_default}
use Rattle.std.proofs.Math.Nat.{div-lt_iff_lt-mul, mul-le-mul_left}
use Rattle.std.proofs.lemmas.Bool.{cases_lt}
use Rattle.std.proofs.lemmas.Bool.Decides.{nat_tests}
use Rattle.std.proofs.lemmas.List.{get_or-replicate, length-replicate}
use Rattle.std.proofs.lemmas.List.FromFn.{fill_by_all, get_or-map-range_with_len, length-map-range_with_len}
use Rattle.blk_bits.specs.Granules.{contains, those_below, in_span, with_span, without_span, overlaps, overlaps_member, merged}

constant : (n : ℕ) (b : Bool) (test : ℕ → Bool) → ((k : ℕ) → k < n → test k ≡ b) → those_below n test ≡ replicate n b
constant n b test is = sym (fill_by_all test (replicate n b) n b (length-replicate n b) (λ k below. get_or-replicate n k b b below ∙ sym (is k below)))

-- a span of all the granules
pub all_in : (set : List Bool) → with_span set 0 (length set) ≡ replicate (length set) true
all_in set = constant (length set) true (λ k. contains set k || in_span 0 (length set) k) (λ k below.
    let here : in_span 0 (length set) k ≡ true = grind (arith, nat_tests) in
    rw here (or_true (contains set k)))
  where
    or_true : (b : Bool) → (b || true) ≡ true
    or_true true = refl
    or_true false = refl

pub none_in : (set : List Bool) → without_span set 0 (length set) ≡ replicate (length set) false
none_in set = constant (length set) false (λ k. contains set k && not (in_span 0 (length set) k)) (λ k below.
    let here : in_span 0 (length set) k ≡ true = grind (arith, nat_tests) in
    rw here (and_false (contains set k)))
  where
    and_false : (b : Bool) → (b && false) ≡ false
    and_false true = refl
    and_false false = refl

-- a set with the granules that pass a test, where a span has the same ones
pub marked : (set new : List Bool) (from to : ℕ) (test : ℕ → Bool) → new ≡ with_span set from to
    → ((k : ℕ) → k < length set → in_span from to k ≡ test k)
    → new ≡ those_below (length set) (λ k. contains set k || test k)
marked set new from to test is same =
    fill_by_all (λ k. contains set k || test k) new (length set) false
    (ap length is ∙ length-map-range_with_len (λ k. contains set k || in_span from to k) 0 (length set))
    (λ k below.
    let at : contains new k ≡ (contains set k || in_span from to k)
    = ap (λ s. contains s k) is ∙ get_or-map-range_with_len (λ i. contains set i || in_span from to i) 0 (length set) k k false below (omega arith) in
    rw (at, same k below) refl)

-- the granules with a byte of a span are those from its first to its last byte
pub touched_is : (granularity start len k count from to : ℕ) → 0 < granularity → 0 < len → k < count
    → to ≡ min ((start + (len - 1)) / granularity + 1) count → from ≡ min (start / granularity) to
    → in_span from to k ≡ (nat_lt 0 len && (nat_lt (granularity * k) (start + len) && nat_lt start (granularity * (k + 1))))
touched_is granularity start len k count from to some bytes below to-is from-is =
    let ends : ((start + (len - 1)) / granularity < k) ↔ (start + (len - 1) < k * granularity) = div-lt_iff_lt-mul some in
    let starts : (start / granularity < k + 1) ↔ (start < (k + 1) * granularity) = div-lt_iff_lt-mul some in
    grind (arith, nat_tests, ends, starts)

-- a set merged with itself stays
apart : (granularity k n : ℕ) → k < n → nat_lt (granularity * n) (granularity * (k + 1)) ≡ false
apart granularity k n below =
    let far : granularity * (k + 1) ≤ granularity * n = mul-le-mul_left granularity (omega arith) in
    grind (arith, nat_tests)

no_overlap : (granularity : ℕ) (set : List Bool) (k n : ℕ) → contains set k ≡ false → (contains set n && overlaps (record { mine = granularity; theirs = granularity }) k n) ≡ false
no_overlap granularity set k n none = elim (cases_lt k n) [
  | inl below ↦ rw (apart granularity k n below) (and_false (contains set n) (nat_lt (granularity * k) (granularity * (n + 1))))
  | inr past ↦ elim (cases_lt n k) [
    | inl above ↦ rw (apart granularity n k above) (and_left (contains set n) (nat_lt (granularity * n) (granularity * (k + 1))))
    | inr same ↦
        let is : n ≡ k = omega arith in
        rw (is, none) refl
  ]
]
  where
    and_false : (a b : Bool) → (a && (b && false)) ≡ false
    and_false true true = refl
    and_false true false = refl
    and_false false b = refl

    and_left : (a b : Bool) → (a && (false && b)) ≡ false
    and_left true b = refl
    and_left false b = refl

no_other : (granularity : ℕ) (set : List Bool) (k n : ℕ) → contains set k ≡ false → overlaps_member (record { mine = granularity; theirs = granularity }) set k n ≡ false
no_other granularity set k zero none = refl
no_other granularity set k (suc n) none = rw (no_overlap granularity set k n none) (no_other granularity set k n none)

pub merged_self : (granularity : ℕ) (set : List Bool) → merged (record { mine = granularity; theirs = granularity }) set set ≡ set
merged_self granularity set =
    sym (fill_by_all (λ k. contains set k || overlaps_member (record { mine = granularity; theirs = granularity }) set k (length set)) set (length set) false refl
    (λ k below. member k (contains set k) refl))
  where
    member : (k : ℕ) (b : Bool) → contains set k ≡ b → contains set k ≡ (contains set k || overlaps_member (record { mine = granularity; theirs = granularity }) set k (length set))
    member k true is = rw is refl
    member k false is = rw (is, no_other granularity set k (length set) is) refl

-- of granules of one unit the only one that overlaps granule k is k
same_only : (old : List Bool) (k n : ℕ) → overlaps_member (record { mine = 1; theirs = 1 }) old k n ≡ (nat_lt k n && contains old k)
same_only old k zero = let past : nat_lt k 0 ≡ false = grind (arith, nat_tests) in rw past refl
same_only old k (suc n) = elim (cases_lt k n) [
  | inl below ↦
      let here : nat_lt k (suc n) ≡ true = grind (arith, nat_tests) in
      let before : nat_lt k n ≡ true = grind (arith, nat_tests) in
      rw (apart 1 k n below, same_only old k n, here, before) (drop_right (contains old n) (nat_lt (1 * k) (1 * (n + 1))) (contains old k))
  | inr past ↦ elim (cases_lt n k) [
    | inl above ↦
        let here : nat_lt k (suc n) ≡ false = grind (arith, nat_tests) in
        let before : nat_lt k n ≡ false = grind (arith, nat_tests) in
        rw (apart 1 n k above, same_only old k n, here, before) (drop_left (contains old n) (nat_lt (1 * n) (1 * (k + 1))))
    | inr also ↦
        let is : n ≡ k = omega arith in
        let here : nat_lt k (suc n) ≡ true = grind (arith, nat_tests) in
        let before : nat_lt k n ≡ false = grind (arith, nat_tests) in
        let meets : nat_lt (1 * k) (1 * (k + 1)) ≡ true = grind (arith, nat_tests) in
        rw (same_only old k n, here, before) (rw (is, meets) (both (contains old k)))
  ]
]
  where
    drop_right : (a b c : Bool) → ((a && (b && false)) || c) ≡ c
    drop_right true true c = refl
    drop_right true false c = refl
    drop_right false b c = refl

    drop_left : (a b : Bool) → ((a && (false && b)) || false) ≡ false
    drop_left true b = refl
    drop_left false b = refl

    both : (a : Bool) → ((a && true) || false) ≡ a
    both true = refl
    both false = refl

member_only : (old : List Bool) (k : ℕ) → overlaps_member (record { mine = 1; theirs = 1 }) old k (length old) ≡ contains old k
member_only old k = elim (cases_lt k (length old)) [
  | inl below ↦ (let here : nat_lt k (length old) ≡ true = grind (arith, nat_tests) in rw (same_only old k (length old), here) refl)
  | inr past ↦
      let here : nat_lt k (length old) ≡ false = grind (arith, nat_tests) in
      rw (same_only old k (length old), here) (sym (get_or-eq_default old false (omega arith)))
]

-- a merge of granules of one size is the union
pub united : (set old : List Bool) → merged (record { mine = 1; theirs = 1 }) set old ≡ those_below (length set) (λ k. contains set k || contains old k)
united set old =
    fill_by_all (λ k. contains set k || contains old k) (merged (record { mine = 1; theirs = 1 }) set old) (length set) false
    (length-map-range_with_len (λ k. contains set k || overlaps_member (record { mine = 1; theirs = 1 }) old k (length old)) 0 (length set))
    (λ k below.
    get_or-map-range_with_len (λ i. contains set i || overlaps_member (record { mine = 1; theirs = 1 }) old i (length old)) 0 (length set) k k false below (omega arith)
    ∙ ap (λ b. contains set k || b) (member_only old k))
