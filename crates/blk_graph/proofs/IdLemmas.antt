-- Of fewer than 64 nodes some id below 64 is free, and the lowest is one.
use Rattle.std.proofs.Common.{◌≡◌, ◌≢◌, ℕ, zero, suc, ◌+◌, ◌<◌, ◌≤◌, List, [], ◌∷◌, length, refl, inl, inr, arith, Bool, true, false, cond}
use Rattle.std.specs.Prelude.{nat_eq}
use Rattle.std.specs.List.{Contains, IsDistinct, AllByRecursion, list_any}
use Rattle.std.specs.Cmp.{nat_eq_equiv, unsigned_Decides}
use Rattle.std.specs.Set.{is_member}
use Rattle.std.proofs.lemmas.Bool.{ne_eqb, cases_order}
use Rattle.std.proofs.lemmas.Map.Keys.{IsDistinct-cons}
use Rattle.std.proofs.lemmas.Map.Made.{length-le_from_is_member, is_member-Decides}
use Rattle.blk_graph.specs.Ids.{IsLowestFree, lowest_from, lowest_free}
use Rattle.blk_graph.proofs.Members.{Contains-here, Contains-there, Contains-cases, Contains-nil}

-- the numbers below one
abbrev pub numbers_below : ℕ → List ℕ
numbers_below zero = []
numbers_below (suc n) = n ∷ numbers_below n

pub below-less : (n q : ℕ) → Contains (numbers_below n) q → q < n
below-less zero q h = absurd (Contains-nil q h)
below-less (suc n) q h = elim (Contains-cases n (numbers_below n) q h) [
  | inl here ↦ omega (arith, here)
  | inr there ↦ let less = below-less n q there in omega (arith, less)
]

pub below-there : (n q : ℕ) → q < n → Contains (numbers_below n) q
below-there zero q h = absurd (omega (arith, h))
below-there (suc n) q h = elim (cases_order q n) [
  | inl same ↦ rw same (Contains-here n (numbers_below n))
  | inr differs ↦ elim differs [
    | inl less ↦ Contains-there n (numbers_below n) q (below-there n q less)
    | inr more ↦ absurd (omega (arith, h, more))
  ]
]

below-apart : (n m : ℕ) → n ≤ m → AllByRecursion (λ y. nat_eq m y ≡ false) (numbers_below n)
below-apart zero m h = tt
below-apart (suc n) m h = (ne_eqb m n (λ e. omega (arith, h, e)), below-apart n m (omega (arith, h)))

pub below-distinct : (n : ℕ) → IsDistinct nat_eq (numbers_below n)
unfolding IsDistinct
below-distinct zero = tt
below-distinct (suc n) = IsDistinct-cons nat_eq n (numbers_below n) (below-apart n n (omega arith)) (below-distinct n)

pub length-below : (n : ℕ) → length (numbers_below n) ≡ n
length-below zero = refl
length-below (suc n) = let h = length-below n in omega (arith, h)

-- where all ids are taken, the nodes are as many
pub length-taken : (count : ℕ) (nodes : List ℕ) → ((id : ℕ) → id < count → Contains nodes id) → count ≤ length nodes
length-taken count nodes taken =
    let within : (q : ℕ) → is_member nat_eq (numbers_below count) q ≡ true → is_member nat_eq nodes q ≡ true
    = λ q m. (is_member-Decides unsigned_Decides nodes q).1
    (taken q (below-less count q ((is_member-Decides unsigned_Decides (numbers_below count) q).0 m))) in
    let fewer : length (numbers_below count) ≤ length nodes
    = length-le_from_is_member nat_eq_equiv (numbers_below count) nodes (below-distinct count) within in
    omega (arith, fewer, length-below count)

-- which is the id that the definition names
pub lowest_free-is : (taken : List ℕ) (id : ℕ) → id < 64 → IsLowestFree taken id → lowest_free taken ≡ id
unfolding lowest_free
lowest_free-is taken id small lowest = by_turns 64 0 (omega arith) (omega (arith, small))
  where
    by_turns : (more from : ℕ) → from ≤ id → id ≤ from + more → lowest_from more from taken ≡ id
    by_turns zero from above within = omega (arith, above, within)
    by_turns (suc more) from above within = by_test (list_any (nat_eq from) taken) refl (by_turns more (from + 1))
      where
        by_test : (b : Bool) → list_any (nat_eq from) taken ≡ b
            → (from + 1 ≤ id → id ≤ from + 1 + more → lowest_from more (from + 1) taken ≡ id) → cond b (lowest_from more (from + 1) taken) from ≡ id
        by_test true is further =
            let there : Contains taken from = (is_member-Decides unsigned_Decides taken from).0 is in
            let other : from ≢ id = λ e. lowest.free (rw e at there) in
            further (omega (arith, above, other)) (omega (arith, within))
        by_test false is further = elim (cases_order from id) [
          | inl same ↦ same
          | inr differs ↦ elim differs [
            | inl less ↦
                let there = (is_member-Decides unsigned_Decides taken from).1 (lowest.lowest from less) in absurd cc
            | inr more_than ↦ absurd (omega (arith, above, more_than))
          ]
        ]
