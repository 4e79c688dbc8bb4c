-- Bits in words of 64.
use Rattle.std.proofs.Common.{◌≡◌, ◌⊎◌, ℕ, suc, ◌+◌, ◌-◌, ◌*◌, ◌/◌, ◌%◌, ◌^◌, ◌<◌, ◌≤◌, min, max, Bool, true, false, not, ◌&&◌, ◌||◌, eqb, List, ◌++◌, length, get_or, take, drop, replicate, refl, sym, ◌∙◌, ap, arith, inl, inr, length-append}
use Rattle.std.specs.Prelude.{if◌then◌else◌}
use Rattle.std.specs.Int.{bit_at, bit_not, w64}
use Rattle.std.specs.Int.Bits.{bit_or, bit_and}
use Rattle.std.proofs.Math.ListN.{set}
use Rattle.std.proofs.lemmas.Bool.{cases_lt, cases_eq}
use Rattle.std.proofs.lemmas.Bool.Decides.{nat_tests}
use Rattle.std.proofs.lemmas.Nat.Bits.{bit_at_and, bit_at_or, bit_at_not, bit_at_ones, bit_at_ones_above, bit_at_mask_inside, bit_at_mask_below, ones_shr, ones_shl, bit_at-lt, bit_at-zero}
use Rattle.std.proofs.lemmas.List.{get_or_append_left, get_or-append_right, get_or-take, get_or-drop, get_or-replicate, length-take-le, length-drop, length-replicate, get_or-set_same, get_or-set_other}
use Rattle.blk_bits.specs.Granules.{in_span}
use Rattle.blk_bits.specs.Words.{has_bit}

-- the word whose bits from..to are 1
pub mask_bit : (from to k : ℕ) → from < to → to ≤ 64 → k < 64
    → bit_at (bit_and ((2 ^ 64 - 1) / 2 ^ (64 - to)) ((2 ^ 64 - 1) * 2 ^ from % 2 ^ 64)) k ≡ (if in_span from to k then 1 else 0)
mask_bit from to k order within below =
    let low : (2 ^ 64 - 1) / 2 ^ (64 - to) ≡ 2 ^ to - 1 = ones_shr 64 (64 - to) (omega arith) ∙ ap (λ n. 2 ^ n - 1) (omega arith) in
    let high : (2 ^ 64 - 1) * 2 ^ from % 2 ^ 64 ≡ 2 ^ 64 - 2 ^ from = ones_shl 64 from (omega arith) in
    let both : bit_at (bit_and (2 ^ to - 1) (2 ^ 64 - 2 ^ from)) k ≡ min (bit_at (2 ^ to - 1) k) (bit_at (2 ^ 64 - 2 ^ from) k) = bit_at_and (2 ^ to - 1) (2 ^ 64 - 2 ^ from) k in
    rw (low, high) (both ∙ parts (cases_lt k from) (cases_lt k to))
  where
    parts : (k < from) ⊎ (from ≤ k) → (k < to) ⊎ (to ≤ k) → min (bit_at (2 ^ to - 1) k) (bit_at (2 ^ 64 - 2 ^ from) k) ≡ (if in_span from to k then 1 else 0)
    parts (inl before) b = let none = bit_at_mask_below from 64 k before in grind (arith, nat_tests, none)
    parts (inr past) (inl inside) =
        let low = bit_at_ones to k inside in
        let high = bit_at_mask_inside from 64 k past below in grind (arith, nat_tests, low, high)
    parts (inr past) (inr behind) = let none = bit_at_ones_above to k behind in grind (arith, nat_tests, none)

-- bits that are set or cleared by a mask
pub masked : (word mask k : ℕ) (here : Bool) → bit_at mask k ≡ (if here then 1 else 0) → bit_at (bit_or word mask) k ≡ (if here then 1 else bit_at word k)
masked word mask k true is = bit_at_or word mask k ∙ omega (arith, is, bit_at-lt word k)
masked word mask k false is = bit_at_or word mask k ∙ omega (arith, is)

pub unmasked : (word mask k : ℕ) (here : Bool) → mask < 2 ^ 64 → k < 64 → bit_at mask k ≡ (if here then 1 else 0)
    → bit_at (bit_and word (2 ^ 64 - 1 - mask)) k ≡ (if here then 0 else bit_at word k)
unmasked word mask k true fits below is = bit_at_and word (2 ^ 64 - 1 - mask) k ∙ omega (arith, is, bit_at_not w64 mask k fits below)
unmasked word mask k false fits below is = bit_at_and word (2 ^ 64 - 1 - mask) k ∙ omega (arith, is, bit_at_not w64 mask k fits below, bit_at-lt word k)

-- a word of several is replaced by one with a value over some of its bits
pub word_written : (words : List ℕ) (word new from to k : ℕ) (value : Bool) → word < length words → to ≤ 64
    → ((j : ℕ) → j < 64 → bit_at new j ≡ (if in_span from to j then (if value then 1 else 0) else bit_at (get_or words word 0) j))
    → has_bit (set words word new) k ≡ (if in_span (64 * word + from) (64 * word + to) k then value else has_bit words k)
word_written words word new from to k value there within is = elim (cases_eq (k / 64) word) [
  | inl same ↦
      let at : get_or (set words word new) (k / 64) 0 ≡ new = ap (λ i. get_or (set words word new) i 0) same ∙ get_or-set_same words word new 0 there in
      let was : get_or words (k / 64) 0 ≡ get_or words word 0 = ap (λ i. get_or words i 0) same in
      let bit = is (k % 64) (omega arith) in
      let inside : in_span (64 * word + from) (64 * word + to) k ≡ in_span from to (k % 64) = grind (arith, nat_tests) in
      rw (at, was, inside, bit) (chosen (in_span from to (k % 64)) value (bit_at (get_or words word 0) (k % 64)))
  | inr other ↦
      let at : get_or (set words word new) (k / 64) 0 ≡ get_or words (k / 64) 0 = get_or-set_other words word (k / 64) new 0 other in
      let outside : in_span (64 * word + from) (64 * word + to) k ≡ false = grind (arith, nat_tests) in
      rw (at, outside) refl
]
  where
    chosen : (here value : Bool) (bit : ℕ) → eqb (if here then (if value then 1 else 0) else bit) 1 ≡ (if here then value else eqb bit 1)
    chosen true true bit = refl
    chosen true false bit = refl
    chosen false value bit = refl

-- a list with a span of it replaced by copies of a value
abbrev pub overwrite : {X : Type 0} → List X → ℕ → ℕ → X → List X
overwrite old from to x = take from old ++ (replicate (to - from) x ++ drop (to - from) (drop from old))

pub overwritten-at : {X : Type 0} (old : List X) (from to : ℕ) (x d : X) (k : ℕ) → from ≤ to → to ≤ length old
    → get_or (overwrite old from to x) k d ≡ (if in_span from to k then x else get_or old k d)
overwritten-at old from to x d k order within = elim (cases_lt k from) [
  | inl below ↦
      let is : get_or (overwrite old from to x) k d ≡ get_or old k d
      = get_or_append_left (take from old) (replicate (to - from) x ++ drop (to - from) (drop from old)) d k (omega (arith, length-take-le from old (omega arith)))
      ∙ get_or-take from old k d below in
      let outside : in_span from to k ≡ false = grind (arith, nat_tests) in
      rw outside is
  | inr past ↦ elim (cases_lt k to) [
    | inl below ↦
        let is : get_or (overwrite old from to x) k d ≡ x
        = get_or-append_right (take from old) (replicate (to - from) x ++ drop (to - from) (drop from old)) from k d (length-take-le from old (omega arith)) past
        ∙ get_or_append_left (replicate (to - from) x) (drop (to - from) (drop from old)) d (k - from) (omega (arith, length-replicate (to - from) x))
        ∙ get_or-replicate (to - from) (k - from) x d (omega arith) in
        let inside : in_span from to k ≡ true = grind (arith, nat_tests) in
        rw inside is
    | inr behind ↦
        let here : from + (to - from + (k - from - (to - from))) ≡ k = omega arith in
        let is : get_or (overwrite old from to x) k d ≡ get_or old k d
        = get_or-append_right (take from old) (replicate (to - from) x ++ drop (to - from) (drop from old)) from k d (length-take-le from old (omega arith)) past
        ∙ get_or-append_right (replicate (to - from) x) (drop (to - from) (drop from old)) (to - from) (k - from) d (length-replicate (to - from) x) (omega arith)
        ∙ get_or-drop (to - from) (drop from old) (k - from - (to - from)) d
        ∙ get_or-drop from old (to - from + (k - from - (to - from))) d
        ∙ ap (λ i. get_or old i d) here in
        let outside : in_span from to k ≡ false = grind (arith, nat_tests) in
        rw outside is
  ]
]

-- whole words are filled
pub filled : (words : List ℕ) (from to word k : ℕ) (value : Bool) → from ≤ to → to ≤ length words
    → word ≡ (if value then 2 ^ 64 - 1 else 0)
    → has_bit (overwrite words from to word) k ≡ (if in_span (64 * from) (64 * to) k then value else has_bit words k)
filled words from to word k value order within is =
    let at = overwritten-at words from to word 0 (k / 64) order within in
    let inside : in_span from to (k / 64) ≡ in_span (64 * from) (64 * to) k = grind (arith, nat_tests) in
    rw (at, inside) (parts (in_span (64 * from) (64 * to) k) value is)
  where
    whole : (value : Bool) → word ≡ (if value then 2 ^ 64 - 1 else 0) → eqb (bit_at word (k % 64)) 1 ≡ value
    whole true is = rw (is, bit_at_ones 64 (k % 64) (omega arith)) refl
    whole false is = rw (is, bit_at-zero (k % 64)) refl

    parts : (here value : Bool) → word ≡ (if value then 2 ^ 64 - 1 else 0)
        → eqb (bit_at (if here then word else get_or words (k / 64) 0) (k % 64)) 1 ≡ (if here then value else has_bit words k)
    parts true value is = whole value is
    parts false value is = refl

-- three spans that follow one another, written one by one
pub three_written : (value a b c d : Bool) (from first last to k : ℕ) → from ≤ first → first ≤ last → last ≤ to
    → b ≡ (if in_span from first k then value else a) → c ≡ (if in_span first last k then value else b) → d ≡ (if in_span last to k then value else c)
    → d ≡ (if in_span from to k then value else a)
three_written value a b c d from first last to k one two three b-is c-is d-is = grind (arith, nat_tests)
