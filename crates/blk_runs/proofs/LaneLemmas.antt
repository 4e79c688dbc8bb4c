-- Lanes that are 0, or one byte.
use Rattle.std.proofs.Common.{◌≡◌, ℕ, suc, ◌+◌, ◌-◌, ◌<◌, ◌≤◌, Bool, true, false, not, cond, eqb, List, [], ◌∷◌, length, map, get_or, drop, refl, sym, ◌∙◌, ap, subst, arith, inl, inr, zero, ⊎_elim}
use Rattle.std.specs.Int.{bit_at}
use Rattle.std.specs.Int.Bits.{bit_or}
use Rattle.std.specs.Simd.Lanes.{zip2, mask_l, chunk}
use lib.Count.{count_trailing_zeros}
use Rattle.std.specs.List.{prefix_len}
use Rattle.std.proofs.lemmas.Bool.{cases_lt, cases_Bool, eqb-true, eqb-false}
use Rattle.std.proofs.lemmas.Bool.Decides.{nat_tests}
use Rattle.std.proofs.lemmas.List.{get_or_past, get_or-map, get_or-drop, length-drop}
use Rattle.std.proofs.lemmas.List.Elements.{All-from_get_or, All-get_or}
use Rattle.std.specs.Prelude.{All}
use Rattle.blk_runs.specs.Runs.{IsFront}
use Rattle.std.proofs.lemmas.Nat.Bits.{bit_at_or, bit_at-zero, same_from_bits}
use Rattle.std.proofs.lemmas.Simd.{get_or-zip2, length-zip2, bit_mask_l, get_or-chunk, length-chunk, leading_from_mask_l, trailing_mask_l}

or_zero : (a b : ℕ) → bit_or a b ≡ 0 → (a ≡ 0) × (b ≡ 0)
or_zero a b none = (
  same_from_bits a 0 (λ i. omega (arith, bit_at_or a b i, ap (λ n. bit_at n i) none, bit_at-zero i)),
  same_from_bits b 0 (λ i. omega (arith, bit_at_or a b i, ap (λ n. bit_at n i) none, bit_at-zero i)),
)

-- two vectors of one length joined by or: a lane is 0 where both are
either-at : (xs ys : List ℕ) (k : ℕ) → length xs ≡ length ys → get_or (zip2 bit_or xs ys) k 0 ≡ bit_or (get_or xs k 0) (get_or ys k 0)
either-at xs ys k same = elim (cases_lt k (length xs)) [
  | inl below ↦ get_or-zip2 bit_or xs ys k 0 0 0 below (omega arith)
  | inr past ↦
      let none = get_or_past (zip2 bit_or xs ys) k 0 (omega (arith, length-zip2 bit_or xs ys same)) in
      let left = get_or_past xs k 0 past in
      let right = get_or_past ys k 0 (omega arith) in
      rw (none, left, right) refl
]

pub either-zero : (xs ys : List ℕ) (k : ℕ) → length xs ≡ length ys → get_or (zip2 bit_or xs ys) k 0 ≡ 0 → (get_or xs k 0 ≡ 0) × (get_or ys k 0 ≡ 0)
either-zero xs ys k same none = or_zero (get_or xs k 0) (get_or ys k 0) (sym (either-at xs ys k same) ∙ none)

pub zero-either : (xs ys : List ℕ) (k : ℕ) → length xs ≡ length ys → get_or xs k 0 ≡ 0 → get_or ys k 0 ≡ 0 → get_or (zip2 bit_or xs ys) k 0 ≡ 0
zero-either xs ys k same left right = either-at xs ys k same ∙ rw (left, right) refl

-- a mask of lanes that aren't 0
pub empty_mask : (xs : List ℕ) → mask_l (map (λ x. not (eqb x 0)) xs) ≡ 0 → (k : ℕ) → get_or xs k 0 ≡ 0
empty_mask xs none k = elim (cases_lt k (length xs)) [
  | inl below ↦
      let bit = bit_mask_l (map (λ x. not (eqb x 0)) xs) k in
      let clear : bit_at (mask_l (map (λ x. not (eqb x 0)) xs)) k ≡ 0 = ap (λ n. bit_at n k) none ∙ bit_at-zero k in
      let lane = get_or-map (λ x. not (eqb x 0)) xs k 0 false below in
      is_zero (get_or xs k 0) (bit_at (mask_l (map (λ x. not (eqb x 0)) xs)) k) (get_or (map (λ x. not (eqb x 0)) xs) k false) lane bit clear
  | inr past ↦ get_or_past xs k 0 past
]
  where
    is_zero : (x bit : ℕ) (b : Bool) → b ≡ not (eqb x 0) → bit ≡ cond b 1 0 → bit ≡ 0 → x ≡ 0
    is_zero x bit true lane is none = absurd (omega (arith, is, none))
    is_zero x bit false lane is none = grind (arith, nat_tests)

pub mask_of_zeros : (xs : List ℕ) → ((k : ℕ) → get_or xs k 0 ≡ 0) → mask_l (map (λ x. not (eqb x 0)) xs) ≡ 0
mask_of_zeros [] zeros = refl
mask_of_zeros (x ∷ xs) zeros =
    let first : x ≡ 0 = zeros 0 in
    let rest = mask_of_zeros xs (λ k. zeros (suc k)) in
    rw (first, rest) refl

-- 128 bytes in four vectors of 32, joined
abbrev pub quarters : List ℕ → ℕ → List ℕ
quarters bytes at = zip2 bit_or (zip2 bit_or (chunk at 32 bytes) (chunk (at + 32) 32 bytes)) (zip2 bit_or (chunk (at + 64) 32 bytes) (chunk (at + 96) 32 bytes))

chunk-zero : (bytes : List ℕ) (at k : ℕ) → at + 32 ≤ length bytes → ((j : ℕ) → at ≤ j → j < at + 32 → get_or bytes j 0 ≡ 0) → get_or (chunk at 32 bytes) k 0 ≡ 0
chunk-zero bytes at k within zeros = elim (cases_lt k 32) [
  | inl below ↦ get_or-chunk at 32 bytes k 0 below ∙ zeros (at + k) (omega arith) (omega arith)
  | inr past ↦ get_or_past (chunk at 32 bytes) k 0 (omega (arith, length-chunk at 32 bytes within))
]

zero-chunk : (bytes : List ℕ) (at j : ℕ) → at + 32 ≤ length bytes → ((k : ℕ) → get_or (chunk at 32 bytes) k 0 ≡ 0) → at ≤ j → j < at + 32 → get_or bytes j 0 ≡ 0
zero-chunk bytes at j within zeros past below =
    ap (λ i. get_or bytes i 0) (let e : j ≡ at + (j - at) = omega arith in e) ∙ sym (get_or-chunk at 32 bytes (j - at) 0 (omega arith)) ∙ zeros (j - at)

same_lengths : (bytes : List ℕ) (a b : ℕ) → a + 32 ≤ length bytes → b + 32 ≤ length bytes → length (chunk a 32 bytes) ≡ length (chunk b 32 bytes)
same_lengths bytes a b a-within b-within = length-chunk a 32 bytes a-within ∙ sym (length-chunk b 32 bytes b-within)

pub quarters-zero : (bytes : List ℕ) (at : ℕ) → at + 128 ≤ length bytes → ((k : ℕ) → get_or (quarters bytes at) k 0 ≡ 0)
    → (j : ℕ) → at ≤ j → j < at + 128 → get_or bytes j 0 ≡ 0
quarters-zero bytes at within zeros j past below =
    let first-two = same_lengths bytes at (at + 32) (omega arith) (omega arith) in
    let last-two = same_lengths bytes (at + 64) (at + 96) (omega arith) (omega arith) in
    let fronts = length-zip2 bit_or (chunk at 32 bytes) (chunk (at + 32) 32 bytes) first-two in
    let backs = length-zip2 bit_or (chunk (at + 64) 32 bytes) (chunk (at + 96) 32 bytes) last-two in
    let halves = fronts ∙ same_lengths bytes at (at + 64) (omega arith) (omega arith) ∙ sym backs in
    let both = λ (k : ℕ). either-zero (zip2 bit_or (chunk at 32 bytes) (chunk (at + 32) 32 bytes)) (zip2 bit_or (chunk (at + 64) 32 bytes) (chunk (at + 96) 32 bytes)) k halves (zeros k) in
    let front = λ (k : ℕ). either-zero (chunk at 32 bytes) (chunk (at + 32) 32 bytes) k first-two (both k).0 in
    let back = λ (k : ℕ). either-zero (chunk (at + 64) 32 bytes) (chunk (at + 96) 32 bytes) k last-two (both k).1 in
    elim (cases_lt j (at + 64)) [
      | inl early ↦ elim (cases_lt j (at + 32)) [
        | inl first ↦ zero-chunk bytes at j (omega arith) (λ k. (front k).0) past first
        | inr second ↦ zero-chunk bytes (at + 32) j (omega arith) (λ k. (front k).1) second (omega arith)
      ]
      | inr late ↦ elim (cases_lt j (at + 96)) [
        | inl third ↦ zero-chunk bytes (at + 64) j (omega arith) (λ k. (back k).0) late (omega arith)
        | inr fourth ↦ zero-chunk bytes (at + 96) j (omega arith) (λ k. (back k).1) fourth (omega arith)
      ]
    ]

pub zero-quarters : (bytes : List ℕ) (at : ℕ) → at + 128 ≤ length bytes → ((j : ℕ) → at ≤ j → j < at + 128 → get_or bytes j 0 ≡ 0)
    → (k : ℕ) → get_or (quarters bytes at) k 0 ≡ 0
zero-quarters bytes at within zeros k =
    let first-two = same_lengths bytes at (at + 32) (omega arith) (omega arith) in
    let last-two = same_lengths bytes (at + 64) (at + 96) (omega arith) (omega arith) in
    let fronts = length-zip2 bit_or (chunk at 32 bytes) (chunk (at + 32) 32 bytes) first-two in
    let backs = length-zip2 bit_or (chunk (at + 64) 32 bytes) (chunk (at + 96) 32 bytes) last-two in
    let halves = fronts ∙ same_lengths bytes at (at + 64) (omega arith) (omega arith) ∙ sym backs in
    zero-either (zip2 bit_or (chunk at 32 bytes) (chunk (at + 32) 32 bytes)) (zip2 bit_or (chunk (at + 64) 32 bytes) (chunk (at + 96) 32 bytes)) k halves
    (zero-either (chunk at 32 bytes) (chunk (at + 32) 32 bytes) k first-two
    (chunk-zero bytes at k (omega arith) (λ j p b. zeros j p (omega arith)))
    (chunk-zero bytes (at + 32) k (omega arith) (λ j p b. zeros j (omega arith) (omega arith))))
    (zero-either (chunk (at + 64) 32 bytes) (chunk (at + 96) 32 bytes) k last-two
    (chunk-zero bytes (at + 64) k (omega arith) (λ j p b. zeros j (omega arith) (omega arith)))
    (chunk-zero bytes (at + 96) k (omega arith) (λ j p b. zeros j (omega arith) (omega arith))))

-- all bytes, in two parts
pub all-zero : (bytes : List ℕ) (at : ℕ) → at ≤ length bytes → ((k : ℕ) → k < at → get_or bytes k 0 ≡ 0) → All (λ b. b ≡ 0) (drop at bytes) → All (λ b. b ≡ 0) bytes
all-zero bytes at within front back = All-from_get_or (λ b. b ≡ 0) bytes 0 (λ k below. elim (cases_lt k at) [
  | inl early ↦ front k early
  | inr late ↦
      let here : at + (k - at) ≡ k = omega arith in
      ap (λ i. get_or bytes i 0) (sym here) ∙ sym (get_or-drop at bytes (k - at) 0)
      ∙ All-get_or (λ b. b ≡ 0) (drop at bytes) (k - at) 0 (omega (arith, length-drop at bytes)) back
])

-- how many lanes at the front are a byte: those before the first that differs
front-of-lanes : (b : ℕ) (xs : List ℕ) → IsFront b (prefix_len (λ x. not (not (eqb x b))) xs) xs
front-of-lanes b [] = record { within = omega arith; same = λ k below. absurd (omega arith); ends = λ below. absurd (omega arith) }
front-of-lanes b (x ∷ xs) = ⊎_elim
    (λ same.
    let more = front-of-lanes b xs in
    let is : x ≡ b = eqb-true x b same in
    rw same (record {
      within = omega (arith, more.within);
      same = λ k below. before (prefix_len (λ x. not (not (eqb x b))) xs) k is more.same below;
      ends = λ below is. more.ends (omega arith) (ap (λ i. get_or (x ∷ xs) i 0) (let e : suc (prefix_len (λ x. not (not (eqb x b))) xs) ≡ 1 + prefix_len (λ x. not (not (eqb x b))) xs = omega arith in e) ∙ is);
    }))
    (λ other. rw other (record { within = omega arith; same = λ k below. absurd (omega arith); ends = λ below. eqb-false x b other }))
    (cases_Bool (eqb x b))
  where
    before : (n k : ℕ) → x ≡ b → ((k : ℕ) → k < n → get_or xs k 0 ≡ b) → k < 1 + n → get_or (x ∷ xs) k 0 ≡ b
    before n zero is rest below = is
    before n (suc k) is rest below = rest k (omega arith)

-- by the mask of those that differ
pub front-all : (b : ℕ) (xs : List ℕ) → length xs ≡ 32 → mask_l (map (λ x. not (eqb x b)) xs) ≡ 0 → IsFront b 32 xs
front-all b xs long none =
    let is = leading_from_mask_l (λ x. not (eqb x b)) xs none ∙ long in
    subst (λ (n : ℕ). IsFront b n xs) is (front-of-lanes b xs)

pub front-some : (b n : ℕ) (xs : List ℕ) → length xs ≡ 32 → 0 < mask_l (map (λ x. not (eqb x b)) xs) → n ≡ count_trailing_zeros 64 (mask_l (map (λ x. not (eqb x b)) xs)) → IsFront b n xs
front-some b n xs long some counted =
    let is = counted ∙ trailing_mask_l (λ x. not (eqb x b)) 64 xs (omega arith) some in
    subst (λ (n : ℕ). IsFront b n xs) (sym is) (front-of-lanes b xs)

-- where the front ends in the first vector
pub front-ends : (b n : ℕ) (bytes : List ℕ) → 32 ≤ length bytes → n < 32 → IsFront b n (chunk 0 32 bytes) → IsFront b n bytes
front-ends b n bytes room few front = record {
  within = omega arith;
  same = λ k below. here k (omega arith) ∙ front.same k below;
  ends = λ below is. front.ends (omega (arith, length-chunk 0 32 bytes room)) (sym (here n few) ∙ is);
}
  where
    here : (k : ℕ) → k < 32 → get_or bytes k 0 ≡ get_or (chunk 0 32 bytes) k 0
    here k below = ap (λ i. get_or bytes i 0) (let e : k ≡ 0 + k = omega arith in e) ∙ sym (get_or-chunk 0 32 bytes k 0 below)

-- an empty mask of lanes that differ from a byte
pub same_mask : (xs : List ℕ) (y : ℕ) → length xs ≡ 32 → mask_l (map (λ x. not (eqb x y)) xs) ≡ 0 → (k : ℕ) → k < length xs → get_or xs k 0 ≡ y
same_mask xs y long none k below = (front-all y xs long none).same k (omega arith)

-- one more vector of a byte
pub same-further : (bytes : List ℕ) (y at : ℕ) → at + 32 ≤ length bytes → ((k : ℕ) → k < at → get_or bytes k 0 ≡ y)
    → ((k : ℕ) → k < 32 → get_or (chunk at 32 bytes) k 0 ≡ y) → (k : ℕ) → k < at + 32 → get_or bytes k 0 ≡ y
same-further bytes y at within so_far lanes k below = elim (cases_lt k at) [
  | inl early ↦ so_far k early
  | inr late ↦
      ap (λ i. get_or bytes i 0) (let e : k ≡ at + (k - at) = omega arith in e) ∙ sym (get_or-chunk at 32 bytes (k - at) 0 (omega arith)) ∙ lanes (k - at) (omega arith)
]

-- a front in two parts
pub front-joined : (b at n : ℕ) (bytes : List ℕ) → at ≤ length bytes → ((k : ℕ) → k < at → get_or bytes k 0 ≡ b) → IsFront b n (drop at bytes) → IsFront b (at + n) bytes
front-joined b at n bytes within same front = record {
  within = omega (arith, front.within, length-drop at bytes);
  same = λ k below. elim (cases_lt k at) [
    | inl early ↦ same k early
    | inr late ↦
        let here : at + (k - at) ≡ k = omega arith in
        ap (λ i. get_or bytes i 0) (sym here) ∙ sym (get_or-drop at bytes (k - at) 0) ∙ front.same (k - at) (omega arith)
  ];
  ends = λ below is. front.ends (omega (arith, below, length-drop at bytes)) (get_or-drop at bytes n 0 ∙ is);
}
