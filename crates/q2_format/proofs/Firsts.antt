-- The first of a list of refusals, and the lowest number that passes a test.
use Rattle.std.proofs.Common.{◌≡◌, ℕ, zero, suc, ◌+◌, ◌<◌, ◌≤◌, inl, inr, Bool, true, false, cond, List, [], ◌∷◌, Option, None, Some, refl, sym, ap, ◌∙◌, arith}
use Rattle.std.specs.Option.{option_map}
use Rattle.std.specs.List.{find, range_with_len}
use Rattle.std.proofs.lemmas.Bool.{cases_eq}
use Rattle.q2_format.specs.Header.{first, refused_where}
use Rattle.q2_format.specs.Sound.{lowest}

-- where nothing is refused, neither the first does nor the rest
pub first-cons-none : {R : Type 0} (o : Option R) (rest : List (Option R)) → first (o ∷ rest) ≡ None → (o ≡ None) × (first rest ≡ None)
first-cons-none None rest h = (refl, h)
first-cons-none (Some r) rest h = absurd (cc)

pub first-cons : {R : Type 0} (o : Option R) (rest : List (Option R)) → o ≡ None → first (o ∷ rest) ≡ first rest
first-cons o rest h = rw h refl

-- each of a list is None
abbrev pub AllNone : {R : Type 0} → List (Option R) → Type 0
AllNone [] = Unit {0}
AllNone (o ∷ os) = (o ≡ None) × AllNone os

pub first-none : {R : Type 0} (os : List (Option R)) → first os ≡ None → AllNone os
first-none [] h = tt
first-none (o ∷ os) h = let parts = first-cons-none o os h in (parts.0, first-none os parts.1)

pub none_first : {R : Type 0} (os : List (Option R)) → AllNone os → first os ≡ None
none_first [] h = refl
none_first (o ∷ os) h = first-cons o os h.0 ∙ none_first os h.1

pub option_map-none : {A B : Type 0} (f : A → B) (o : Option A) → option_map f o ≡ None → o ≡ None
option_map-none f None h = refl
option_map-none f (Some a) h = absurd (cc)

pub refused_where-none : {R : Type 0} (test : Bool) (r : R) → refused_where test r ≡ None → test ≡ false
refused_where-none true r h = absurd (cc)
refused_where-none false r h = refl

-- a number that doesn't pass, and the rest
one_step : (test : ℕ → Bool) (from k : ℕ) (rest : Option ℕ) (b : Bool) → test from ≡ b → cond b (Some from) rest ≡ None → from ≤ k
    → (rest ≡ None → from + 1 ≤ k → test k ≡ false) → test k ≡ false
one_step test from k rest true e none low further = absurd (cc)
one_step test from k rest false e none low further = elim (cases_eq k from) [
  | inl same ↦ ap test same ∙ e
  | inr other ↦ further none (omega arith)
]

-- no number below n passes
find_none : (test : ℕ → Bool) (from n : ℕ) → find test (range_with_len from n) ≡ None → (k : ℕ) → from ≤ k → k < from + n → test k ≡ false
find_none test from zero h k low high = absurd (omega arith)
find_none test from (suc n) h k low high =
    one_step test from k (find test (range_with_len (from + 1) n)) (test from) refl h low
    (λ rest above. find_none test (from + 1) n rest k above (omega arith))

pub lowest-none : (test : ℕ → Bool) (n : ℕ) → lowest test n ≡ None → (k : ℕ) → k < n → test k ≡ false
lowest-none test n h k below = find_none test 0 n h k (omega arith) (omega arith)

-- and where none does, there is no lowest
none_find : (test : ℕ → Bool) (from n : ℕ) → ((k : ℕ) → from ≤ k → k < from + n → test k ≡ false) → find test (range_with_len from n) ≡ None
none_find test from zero h = refl
none_find test from (suc n) h =
    let here = h from (omega arith) (omega arith) in
    rw here (none_find test (from + 1) n (λ k low high. h k (omega arith) (omega arith)))

pub none_lowest : (test : ℕ → Bool) (n : ℕ) → ((k : ℕ) → k < n → test k ≡ false) → lowest test n ≡ None
none_lowest test n h = none_find test 0 n (λ k low high. h k (omega arith))

-- the lowest is the number that passes where none below it does
find_at : (test : ℕ → Bool) (from n k : ℕ) → from ≤ k → k < from + n → test k ≡ true → ((j : ℕ) → from ≤ j → j < k → test j ≡ false)
    → find test (range_with_len from n) ≡ Some k
find_at test from zero k low high passes h = absurd (omega arith)
find_at test from (suc n) k low high passes h = elim (cases_eq k from) [
  | inl same ↦ let here : test from ≡ true = ap test (sym same) ∙ passes in rw (here, same) refl
  | inr other ↦
      let here : test from ≡ false = h from (omega arith) (omega arith) in
      rw here (find_at test (from + 1) n k (omega arith) (omega arith) passes (λ j above below. h j (omega arith) below))
]

pub lowest_at : (test : ℕ → Bool) (n k : ℕ) → k < n → test k ≡ true → ((j : ℕ) → j < k → test j ≡ false) → lowest test n ≡ Some k
lowest_at test n k below passes h = find_at test 0 n k (omega arith) (omega arith) passes (λ j low high. h j high)

-- two tests that agree below n have one lowest
find_alike : (f g : ℕ → Bool) (from n : ℕ) → ((k : ℕ) → from ≤ k → k < from + n → f k ≡ g k) → find f (range_with_len from n) ≡ find g (range_with_len from n)
find_alike f g from zero h = refl
find_alike f g from (suc n) h =
    let here = h from (omega arith) (omega arith) in
    let rest = find_alike f g (from + 1) n (λ k low high. h k (omega arith) (omega arith)) in
    rw (here, rest) refl

pub lowest_alike : (f g : ℕ → Bool) (n : ℕ) → ((k : ℕ) → k < n → f k ≡ g k) → lowest f n ≡ lowest g n
lowest_alike f g n h = find_alike f g 0 n (λ k low high. h k (omega arith))
