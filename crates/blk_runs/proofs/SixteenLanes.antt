-- Sixteen bytes, and what vectors make of them.
use Rattle.std.proofs.Common.{◌≡◌, ◌≢◌, ℕ, zero, suc, ◌+◌, ◌/◌, ◌%◌, ◌^◌, ◌<◌, List, [], ◌∷◌, ◌++◌, Bool, true, false, cond, eqb, ltb, map, length, take, get_or, replicate, refl, ap, sym, ◌∙◌, arith, append_assoc, eq-eqb, inl, inr, w8, Fits}
use Rattle.std.specs.Int.Bits.{bit_and}
use Rattle.std.specs.Int.{bit_at}
use Rattle.std.specs.Fmt.{digit_glyph}
use Rattle.std.specs.Simd.Lanes.{Each1, zip2, sel_l, pick_l, mask_l}
use Rattle.std.proofs.lemmas.Bool.{cases_lt, lt-ltb, le-ltb}
use Rattle.std.proofs.lemmas.Nat.{and_mask}
use Rattle.std.proofs.lemmas.Nat.Bits.{bit_at-zero}
use Rattle.std.proofs.lemmas.Simd.{get_or-zip2, bit_mask_l}
use Rattle.blk_runs.specs.Singles.{singles_text, digits_of}

-- what holds of sixteen elements holds of a list that is so long
sixteen : (P : List ℕ → Type 0) → ((a0 a1 a2 a3 a4 a5 a6 a7 a8 a9 a10 a11 a12 a13 a14 a15 : ℕ) → P (a0 ∷ a1 ∷ a2 ∷ a3 ∷ a4 ∷ a5 ∷ a6 ∷ a7 ∷ a8 ∷ a9 ∷ a10 ∷ a11 ∷ a12 ∷ a13 ∷ a14 ∷ a15 ∷ [])) → (xs : List ℕ) → length xs ≡ 16 → P xs
sixteen P f (a0 ∷ a1 ∷ a2 ∷ a3 ∷ a4 ∷ a5 ∷ a6 ∷ a7 ∷ a8 ∷ a9 ∷ a10 ∷ a11 ∷ a12 ∷ a13 ∷ a14 ∷ a15 ∷ []) long = f a0 a1 a2 a3 a4 a5 a6 a7 a8 a9 a10 a11 a12 a13 a14 a15
sixteen P f _ long = absurd (omega (arith, long))

low : (n : ℕ) (bytes : List ℕ) → length bytes ≡ n → zip2 bit_and bytes (replicate n 15) ≡ map (λ b. b % 16) bytes
low n [] long = refl
low zero (b ∷ bytes) long = absurd (omega (arith, long))
low (suc n) (b ∷ bytes) long =
    let first : bit_and b 15 ≡ b % 16 = and_mask b 4 in
    rw (first, low n bytes (omega (arith, long))) refl

high : (n : ℕ) (bytes : List ℕ) → length bytes ≡ n → zip2 (λ a b. a / 2 ^ b) bytes (replicate n 4) ≡ map (λ b. b / 16) bytes
high n [] long = refl
high zero (b ∷ bytes) long = absurd (omega (arith, long))
high (suc n) (b ∷ bytes) long = rw (high n bytes (omega (arith, long))) refl

-- the digits of sixteen bytes, in turn
pub digits-in-turn : (bytes : List ℕ) → length bytes ≡ 16
    → pick_l 0 (zip2 (λ a b. a / 2 ^ b) bytes (replicate 16 4) ++ zip2 bit_and bytes (replicate 16 15))
    (0 ∷ 16 ∷ 1 ∷ 17 ∷ 2 ∷ 18 ∷ 3 ∷ 19 ∷ 4 ∷ 20 ∷ 5 ∷ 21 ∷ 6 ∷ 22 ∷ 7 ∷ 23 ∷ 8 ∷ 24 ∷ 9 ∷ 25 ∷ 10 ∷ 26 ∷ 11 ∷ 27 ∷ 12 ∷ 28 ∷ 13 ∷ 29 ∷ 14 ∷ 30 ∷ 15 ∷ 31 ∷ []) ≡ digits_of bytes
digits-in-turn bytes long =
    ap (λ (xs : List ℕ). pick_l 0 (xs ++ zip2 bit_and bytes (replicate 16 15)) (0 ∷ 16 ∷ 1 ∷ 17 ∷ 2 ∷ 18 ∷ 3 ∷ 19 ∷ 4 ∷ 20 ∷ 5 ∷ 21 ∷ 6 ∷ 22 ∷ 7 ∷ 23 ∷ 8 ∷ 24 ∷ 9 ∷ 25 ∷ 10 ∷ 26 ∷ 11 ∷ 27 ∷ 12 ∷ 28 ∷ 13 ∷ 29 ∷ 14 ∷ 30 ∷ 15 ∷ 31 ∷ [])) (high 16 bytes long)
    ∙ ap (λ (xs : List ℕ). pick_l 0 (map (λ b. b / 16) bytes ++ xs) (0 ∷ 16 ∷ 1 ∷ 17 ∷ 2 ∷ 18 ∷ 3 ∷ 19 ∷ 4 ∷ 20 ∷ 5 ∷ 21 ∷ 6 ∷ 22 ∷ 7 ∷ 23 ∷ 8 ∷ 24 ∷ 9 ∷ 25 ∷ 10 ∷ 26 ∷ 11 ∷ 27 ∷ 12 ∷ 28 ∷ 13 ∷ 29 ∷ 14 ∷ 30 ∷ 15 ∷ 31 ∷ [])) (low 16 bytes long)
    ∙ sixteen (λ bytes. pick_l 0 (map (λ b. b / 16) bytes ++ map (λ b. b % 16) bytes) (0 ∷ 16 ∷ 1 ∷ 17 ∷ 2 ∷ 18 ∷ 3 ∷ 19 ∷ 4 ∷ 20 ∷ 5 ∷ 21 ∷ 6 ∷ 22 ∷ 7 ∷ 23 ∷ 8 ∷ 24 ∷ 9 ∷ 25 ∷ 10 ∷ 26 ∷ 11 ∷ 27 ∷ 12 ∷ 28 ∷ 13 ∷ 29 ∷ 14 ∷ 30 ∷ 15 ∷ 31 ∷ []) ≡ digits_of bytes) (λ a0 a1 a2 a3 a4 a5 a6 a7 a8 a9 a10 a11 a12 a13 a14 a15. refl) bytes long

pub digits-small : (bytes : List ℕ) → Each1 (Fits w8) bytes → Each1 (λ d. d < 16) (digits_of bytes)
digits-small [] fit = tt
digits-small (b ∷ bytes) fit = (omega (arith, fit.0.fits), (omega arith, digits-small bytes fit.1))

glyph : (d : ℕ) → d < 16 → (d + cond (ltb d 10) 48 87) % 256 ≡ digit_glyph false d
glyph d small = elim (cases_lt d 10) [
  | inl below ↦ let is : ltb d 10 ≡ true = lt-ltb d 10 below in rw is (omega arith)
  | inr above ↦ let is : ltb d 10 ≡ false = le-ltb d 10 above in rw is (omega arith)
]

pub glyphs-of : (n : ℕ) (digits : List ℕ) → length digits ≡ n → Each1 (λ d. d < 16) digits
    → zip2 (λ a b. (a + b) % 256) digits (sel_l (zip2 ltb digits (replicate n 10)) (replicate n 48) (replicate n 87)) ≡ map (digit_glyph false) digits
glyphs-of n [] long small = refl
glyphs-of zero (d ∷ digits) long small = absurd (omega (arith, long))
glyphs-of (suc n) (d ∷ digits) long small = rw (glyph d small.0, glyphs-of n digits (omega (arith, long)) small.1) refl

-- the lanes of the five vectors that the text of sixteen runs is put together from
abbrev first : List ℕ
first = 0 ∷ 1 ∷ 32 ∷ 33 ∷ 34 ∷ 2 ∷ 3 ∷ 32 ∷ 33 ∷ 34 ∷ 4 ∷ 5 ∷ 32 ∷ 33 ∷ 34 ∷ 6 ∷ []

abbrev second : List ℕ
second = 7 ∷ 32 ∷ 33 ∷ 34 ∷ 8 ∷ 9 ∷ 32 ∷ 33 ∷ 34 ∷ 10 ∷ 11 ∷ 32 ∷ 33 ∷ 34 ∷ 12 ∷ 13 ∷ []

abbrev third : List ℕ
third = 32 ∷ 33 ∷ 34 ∷ 14 ∷ 15 ∷ 32 ∷ 33 ∷ 34 ∷ 16 ∷ 17 ∷ 32 ∷ 33 ∷ 34 ∷ 18 ∷ 19 ∷ 32 ∷ []

abbrev fourth : List ℕ
fourth = 33 ∷ 34 ∷ 20 ∷ 21 ∷ 32 ∷ 33 ∷ 34 ∷ 22 ∷ 23 ∷ 32 ∷ 33 ∷ 34 ∷ 24 ∷ 25 ∷ 32 ∷ 33 ∷ []

abbrev fifth : List ℕ
fifth = 34 ∷ 26 ∷ 27 ∷ 32 ∷ 33 ∷ 34 ∷ 28 ∷ 29 ∷ 32 ∷ 33 ∷ 34 ∷ 30 ∷ 31 ∷ 32 ∷ 33 ∷ 34 ∷ []

abbrev signs : List ℕ
signs = 42 ∷ 49 ∷ 32 ∷ 0 ∷ 0 ∷ 0 ∷ 0 ∷ 0 ∷ 0 ∷ 0 ∷ 0 ∷ 0 ∷ 0 ∷ 0 ∷ 0 ∷ 0 ∷ 0 ∷ 0 ∷ 0 ∷ 0 ∷ 0 ∷ 0 ∷ 0 ∷ 0 ∷ 0 ∷ 0 ∷ 0 ∷ 0 ∷ 0 ∷ 0 ∷ 0 ∷ 0 ∷ []

pub text-of-parts : (bytes pairs p q r s t : List ℕ) → length bytes ≡ 16 → pairs ≡ map (digit_glyph false) (digits_of bytes)
    → p ≡ pick_l 0 (pairs ++ signs) first → q ≡ pick_l 0 (pairs ++ signs) second → r ≡ pick_l 0 (pairs ++ signs) third
    → s ≡ pick_l 0 (pairs ++ signs) fourth → t ≡ pick_l 0 (pairs ++ signs) fifth
    → p ++ (q ++ (r ++ (s ++ t))) ≡ singles_text bytes
text-of-parts bytes pairs p q r s t long is a b c d e =
    rw (a, b, c, d, e, is) (sixteen (λ bytes.
    let pairs = map (digit_glyph false) (digits_of bytes) in
    pick_l 0 (pairs ++ signs) first ++ (pick_l 0 (pairs ++ signs) second ++ (pick_l 0 (pairs ++ signs) third
    ++ (pick_l 0 (pairs ++ signs) fourth ++ pick_l 0 (pairs ++ signs) fifth))) ≡ singles_text bytes) (λ a0 a1 a2 a3 a4 a5 a6 a7 a8 a9 a10 a11 a12 a13 a14 a15. refl) bytes long)

pub stored : (at : ℕ) (w0 w1 w2 w3 w4 w5 p q r s t : List ℕ) → take (at + 16) w1 ≡ take at w0 ++ p → take (at + 16 + 16) w2 ≡ take (at + 16) w1 ++ q
    → take (at + 32 + 16) w3 ≡ take (at + 32) w2 ++ r → take (at + 48 + 16) w4 ≡ take (at + 48) w3 ++ s → take (at + 64 + 16) w5 ≡ take (at + 64) w4 ++ t
    → take (at + 80) w5 ≡ take at w0 ++ (p ++ (q ++ (r ++ (s ++ t))))
stored at w0 w1 w2 w3 w4 w5 p q r s t a b c d e =
    let i : at + 16 + 16 ≡ at + 32 = omega arith in
    let j : at + 32 + 16 ≡ at + 48 = omega arith in
    let k : at + 48 + 16 ≡ at + 64 = omega arith in
    let l : at + 64 + 16 ≡ at + 80 = omega arith in
    let b2 : take (at + 32) w2 ≡ take at w0 ++ (p ++ q) = ap (λ n. take n w2) (sym i) ∙ b ∙ ap (λ x. x ++ q) a ∙ append_assoc (take at w0) p q in
    let c2 : take (at + 48) w3 ≡ take at w0 ++ (p ++ (q ++ r))
    = ap (λ n. take n w3) (sym j) ∙ c ∙ ap (λ x. x ++ r) b2 ∙ append_assoc (take at w0) (p ++ q) r ∙ ap (λ x. take at w0 ++ x) (append_assoc p q r) in
    let d2 : take (at + 64) w4 ≡ take at w0 ++ (p ++ (q ++ (r ++ s)))
    = ap (λ n. take n w4) (sym k) ∙ d ∙ ap (λ x. x ++ s) c2 ∙ append_assoc (take at w0) (p ++ (q ++ r)) s
    ∙ ap (λ x. take at w0 ++ x) (append_assoc p (q ++ r) s ∙ ap (λ x. p ++ x) (append_assoc q r s)) in
    ap (λ n. take n w5) (sym l) ∙ e ∙ ap (λ x. x ++ t) d2 ∙ append_assoc (take at w0) (p ++ (q ++ (r ++ s))) t
    ∙ ap (λ x. take at w0 ++ x) (append_assoc p (q ++ (r ++ s)) t ∙ ap (λ x. p ++ x) (append_assoc q (r ++ s) t ∙ ap (λ x. q ++ x) (append_assoc r s t)))

-- an empty mask of equal lanes
pub differing : (a b : List ℕ) → length a ≡ 16 → length b ≡ 16 → mask_l (zip2 eqb a b) ≡ 0 → (k : ℕ) → k < 16 → get_or a k 0 ≢ get_or b k 0
differing a b long wide none k below same =
    let bit = bit_mask_l (zip2 eqb a b) k in
    let clear : bit_at (mask_l (zip2 eqb a b)) k ≡ 0 = ap (λ n. bit_at n k) none ∙ bit_at-zero k in
    let lane = get_or-zip2 eqb a b k 0 0 false (omega arith) (omega arith) in
    apart (get_or a k 0) (get_or b k 0) (bit_at (mask_l (zip2 eqb a b)) k) (get_or (zip2 eqb a b) k false) lane bit clear same
  where
    apart : (x y bit : ℕ) (t : Bool) → t ≡ eqb x y → bit ≡ cond t 1 0 → bit ≡ 0 → x ≡ y → ⊥
    apart x y bit true lane is none same = omega (arith, is, none)
    apart x y bit false lane is none same = cc (eq-eqb x y same)
