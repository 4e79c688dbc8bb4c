-- Digits that are read one by one.
use Rattle.std.proofs.Common.{◌≡◌, ℕ, ◌+◌, ◌*◌, ◌<◌, ◌≤◌, List, [], ◌∷◌, true, false, length, get_or, drop, refl, ap, ◌∙◌, arith, Some, None, ltb, lt-ltb, le-ltb, ⊎_elim}
use Rattle.std.specs.Char.{digit_value, is_digit}
use Rattle.std.proofs.lemmas.Bool.{cases_Bool}
use Rattle.std.proofs.lemmas.List.{drop_more}
use Rattle.std.proofs.Math.Nat.{mul-le-mul_left}
use Rattle.trace_codec.specs.Number.{digits_after, numeral, below}

-- digits give the number that they write
pub numeral_is : (base : ℕ) (digits : List ℕ) → 0 < length digits → numeral base digits ≡ digits_after base 0 digits
numeral_is base [] h = absurd (omega arith)
numeral_is base (c ∷ digits) h = refl

pub digits_after_digit : (base n : ℕ) (digits : List ℕ) (i : ℕ) → i < length digits → digit_value (get_or digits i 0) < base →
    digits_after base n (drop i digits) ≡ digits_after base (n * base + digit_value (get_or digits i 0)) (drop (i + 1) digits)
digits_after_digit base n digits i h d =
    let e : ltb (digit_value (get_or digits i 0)) base ≡ true = lt-ltb _ _ d in
    ap (digits_after base n) (drop_more digits i 0 h) ∙ rw e refl

pub digits_after_other : (base n : ℕ) (digits : List ℕ) (i : ℕ) → i < length digits → (digit_value (get_or digits i 0) < base → ⊥) →
    digits_after base n (drop i digits) ≡ None
digits_after_other base n digits i h d =
    let e : ltb (digit_value (get_or digits i 0)) base ≡ false = le-ltb _ _ (omega arith) in
    ap (digits_after base n) (drop_more digits i 0 h) ∙ rw e refl

-- more digits make no number smaller
pub too_large : (base n limit : ℕ) (digits : List ℕ) → 0 < base → limit ≤ n → below limit (digits_after base n digits) ≡ None
too_large base n limit [] some h = let e : ltb n limit ≡ false = le-ltb _ _ h in rw e refl
too_large base n limit (c ∷ digits) some h =
    let grown : n * 1 ≤ n * base = mul-le-mul_left n some in
    ⊎_elim
    (λ e. rw e (too_large base (n * base + digit_value c) limit digits some (omega arith)))
    (λ e. rw e refl)
    (cases_Bool (is_digit c base))

-- one digit more, and the number is too large
pub refused : (base n limit d : ℕ) (digits : List ℕ) (i : ℕ) → 0 < base → i < length digits → d < base → d ≡ digit_value (get_or digits i 0) → (n * base + d < limit → ⊥) →
    digits_after base n (drop i digits) ≡ digits_after base 0 digits → below limit (numeral base digits) ≡ None
refused base n limit d digits i some h small same large e =
    let step = digits_after_digit base n digits i h (rw same at small) in
    let bound : limit ≤ n * base + d = omega arith in
    rw (numeral_is base digits (omega arith)) (rw (← e) (rw step
    (too_large base (n * base + digit_value (get_or digits i 0)) limit (drop (i + 1) digits) some (rw same at bound))))

-- a number is below the limit or not
pub below_small : (limit n : ℕ) → n < limit → below limit (Some n) ≡ Some n
below_small limit n h = let e : ltb n limit ≡ true = lt-ltb _ _ h in rw e refl
