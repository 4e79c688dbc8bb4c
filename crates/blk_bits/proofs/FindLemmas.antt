-- Members found in words.
use Rattle.std.proofs.Common.{◌≡◌, ◌≢◌, ◌⊎◌, ℕ, suc, ◌+◌, ◌-◌, ◌*◌, ◌/◌, ◌%◌, ◌^◌, ◌<◌, ◌≤◌, Bool, true, false, not, eqb, List, length, get_or, refl, sym, ◌∙◌, ap, subst, arith, inl, inr, lit<}
use Rattle.std.specs.Int.Bits.{bit_and}
use Rattle.std.specs.Int.{bit_at, bit_not, trailing_zeros, trailing_ones, w64}
use Rattle.std.proofs.Math.Nat.{div-div-eq-div-mul, div-le_self, div-one}
use Rattle.std.proofs.lemmas.Bool.{cases_lt, cases_eq, eqb-true}
use Rattle.std.proofs.lemmas.Bool.Decides.{nat_tests}
use Rattle.std.proofs.lemmas.Nat.{pow-add}
use Rattle.std.proofs.lemmas.Nat.Bits.{bit_at-lt, bit_at-zero, bit_at_above, bit_at_ones, bit_at-trailing_zeros, bit_at-trailing_ones, shr_and_one}
use Rattle.std.proofs.lemmas.List.{get_or_past}
use Rattle.blk_bits.specs.Granules.{contains, LeastFrom, HasNoneFrom}
use Rattle.blk_bits.specs.Words.{word_count, used_words, has_bit}
use Rattle.blk_bits.proofs.LevelLemmas.{WordsKeep, used-kept, no_bit, unused-none, length-used_words}

-- the bits of a shifted word
pub shifted : (word s i : ℕ) → bit_at (word / 2 ^ s) i ≡ bit_at word (s + i)
shifted word s i = ap (λ n. n % 2) (div-div-eq-div-mul word (2 ^ s) (2 ^ i) ∙ ap (λ d. word / d) (sym (pow-add 2 s i)))

-- a member, by its bit in the word that is shifted to a place before it
pub ahead-kept : (set : List Bool) (words : List ℕ) → WordsKeep set words → (from k : ℕ) → from ≤ k → k / 64 ≡ from / 64
    → eqb (bit_at (get_or words (from / 64) 0 / 2 ^ (from % 64)) (k - from)) 1 ≡ contains set k
ahead-kept set words keeps from k past same =
    let place : from % 64 + (k - from) ≡ k % 64 = omega arith in
    let is = keeps.bit k in
    let at : get_or words (k / 64) 0 ≡ get_or words (from / 64) 0 = ap (λ w. get_or words w 0) same in
    rw (shifted (get_or words (from / 64) 0) (from % 64) (k - from), place) (rw at at is)

-- no member is in what is left of a word
pub none-left : (set : List Bool) (words : List ℕ) → WordsKeep set words → (from : ℕ) → get_or words (from / 64) 0 / 2 ^ (from % 64) ≡ 0
    → (k : ℕ) → from ≤ k → k / 64 ≡ from / 64 → contains set k ≡ false
none-left set words keeps from zero k past same =
    let is = ahead-kept set words keeps from k past same in
    let bit : bit_at (get_or words (from / 64) 0 / 2 ^ (from % 64)) (k - from) ≡ 0 = ap (λ w. bit_at w (k - from)) zero ∙ bit_at-zero (k - from) in
    sym is ∙ ap (λ b. eqb b 1) bit

pub none-behind : (set : List Bool) (words : List ℕ) → WordsKeep set words → (from : ℕ) → length words ≤ from / 64
    → (k : ℕ) → from ≤ k → k / 64 ≡ from / 64 → contains set k ≡ false
none-behind set words keeps from behind k past same =
    sym (keeps.bit k) ∙ no_bit words k (get_or_past words (k / 64) 0 (omega arith))

-- a bit of what is left of a word is in that word
in_word : (word s i : ℕ) → word < 2 ^ 64 → bit_at (word / 2 ^ s) i ≡ 1 → s + i < 64
in_word word s i fits is = elim (cases_lt (s + i) 64) [
  | inl below ↦ below
  | inr past ↦
      let none = bit_at_above word 64 (s + i) fits past in
      let one = sym (shifted word s i) ∙ is in
      absurd (omega (arith, none, one))
]

div-le : (word s : ℕ) → word / 2 ^ s ≤ word
div-le word s = div-le_self word (2 ^ s)

-- the lowest bit that is left is the least member
pub least-left : (set : List Bool) (words : List ℕ) → WordsKeep set words → (from : ℕ) → 0 < get_or words (from / 64) 0 / 2 ^ (from % 64)
    → (from % 64 + trailing_zeros w64 (get_or words (from / 64) 0 / 2 ^ (from % 64)) < 64)
    × LeastFrom set from (from + trailing_zeros w64 (get_or words (from / 64) 0 / 2 ^ (from % 64)))
least-left set words keeps from some =
    let word = get_or words (from / 64) 0 in
    let ahead = word / 2 ^ (from % 64) in
    let fits : word < 2 ^ 64 = keeps.fits (from / 64) in
    let lowest = bit_at-trailing_zeros w64 ahead some (omega (arith, fits, div-le word (from % 64))) in
    let zeros = trailing_zeros w64 ahead in
    let within : from % 64 + zeros < 64 = in_word word (from % 64) zeros fits lowest.1 in (
      within,
      record {
        reached = omega arith;
        member =
            let is = ahead-kept set words keeps from (from + zeros) (omega arith) (omega arith) in
            let back : from + zeros - from ≡ zeros = omega arith in
            sym is ∙ ap (λ i. eqb (bit_at ahead i) 1) back ∙ ap (λ b. eqb b 1) lowest.1;
        first = λ k past below.
            let is = ahead-kept set words keeps from k past (omega arith) in
            sym is ∙ ap (λ b. eqb b 1) (lowest.2 (k - from) (omega arith));
      },
    )

-- the ones that are left in a row are members
ones : (ahead : ℕ) → ahead < 2 ^ 64 → (i : ℕ) → i < trailing_ones w64 ahead → bit_at ahead i ≡ 1
unfolding lib.Count.count_trailing_zeros
ones ahead fits i below = elim (cases_lt (ahead + 1) (2 ^ 64)) [
  | inl less ↦ (bit_at-trailing_ones w64 ahead less).2 i below
  | inr all ↦
      let is : ahead ≡ 2 ^ 64 - 1 = omega arith in
      let few : trailing_ones w64 ahead ≡ 64 = ap (λ n. trailing_ones w64 n) is in
      ap (λ n. bit_at n i) is ∙ bit_at_ones 64 i (omega arith)
]

some_ones : (ahead : ℕ) → ahead < 2 ^ 64 → bit_at ahead 0 ≡ 1 → 0 < trailing_ones w64 ahead
unfolding lib.Count.count_trailing_zeros
some_ones ahead fits one = elim (cases_lt (ahead + 1) (2 ^ 64)) [
  | inl less ↦
      let lowest = bit_at-trailing_ones w64 ahead less in
      positive (trailing_ones w64 ahead) (λ zero. absurd (omega (arith, one, ap (λ i. bit_at ahead i) (sym zero) ∙ lowest.1)))
  | inr all ↦
      let is : ahead ≡ 2 ^ 64 - 1 = omega arith in
      let few : trailing_ones w64 ahead ≡ 64 = ap (λ n. trailing_ones w64 n) is in
      omega arith
]
  where
    positive : (n : ℕ) → (n ≡ 0 → ⊥) → 0 < n
    positive n some = omega arith

pub run-left : (set : List Bool) (words : List ℕ) → WordsKeep set words → (from : ℕ) → contains set from ≡ true
    → (0 < trailing_ones w64 (get_or words (from / 64) 0 / 2 ^ (from % 64)))
    × ((k : ℕ) → from ≤ k → k < from + trailing_ones w64 (get_or words (from / 64) 0 / 2 ^ (from % 64)) → contains set k ≡ true)
run-left set words keeps from there =
    let word = get_or words (from / 64) 0 in
    let ahead = word / 2 ^ (from % 64) in
    let fits : word < 2 ^ 64 = keeps.fits (from / 64) in
    let small : ahead < 2 ^ 64 = omega (arith, fits, div-le word (from % 64)) in
    let zero-place : from - from ≡ 0 = omega arith in
    let first = ap (λ i. eqb (bit_at ahead i) 1) (sym zero-place) ∙ ahead-kept set words keeps from from (omega arith) refl ∙ there in (
      some_ones ahead small (eqb-true (bit_at ahead 0) 1 first),
      (λ k past below.
          let one = ones ahead small (k - from) (omega arith) in
          let within : from % 64 + (k - from) < 64 = in_word word (from % 64) (k - from) fits one in
          sym (ahead-kept set words keeps from k past (omega arith)) ∙ ap (λ b. eqb b 1) one),
    )

-- a member is below the count
pub member-below : (set : List Bool) (k : ℕ) → contains set k ≡ true → k < length set
member-below set k there = elim (cases_lt k (length set)) [
  | inl below ↦ below
  | inr past ↦ absurd (differ (sym there ∙ get_or_past set k false past))
]
  where
    differ : true ≡ false → ⊥
    differ e = cc

-- one granule by its bit
pub bit-tested : (set : List Bool) (words : List ℕ) → WordsKeep set words → (k : ℕ) → eqb (bit_and (get_or words (k / 64) 0 / 2 ^ (k % 64)) 1) 1 ≡ contains set k
bit-tested set words keeps k = ap (λ b. eqb b 1) (shr_and_one (get_or words (k / 64) 0) (k % 64)) ∙ keeps.bit k

-- the word of a level that says that it isn't 0 is there, and isn't 0
pub used-word : (set : List Bool) (words : List ℕ) → WordsKeep set words → (w : ℕ) → contains (used_words set) w ≡ true → (w < length words) × (0 < get_or words w 0)
used-word set words keeps w there = (
  omega (arith, keeps.count, length-used_words set, member-below (used_words set) w there),
  positive (get_or words w 0) (sym (used-kept set words keeps w) ∙ there),
)
  where
    positive : (n : ℕ) → not (eqb n 0) ≡ true → 0 < n
    positive n is = grind (arith, nat_tests)

-- a search goes on in the level above
pub none-above : (set : List Bool) (from : ℕ) → ((k : ℕ) → from ≤ k → k / 64 ≡ from / 64 → contains set k ≡ false)
    → HasNoneFrom (used_words set) (from / 64 + 1) → HasNoneFrom set from
none-above set from here above k past = elim (cases_eq (k / 64) (from / 64)) [
  | inl same ↦ here k past same
  | inr other ↦ unused-none set k (above (k / 64) (omega arith))
]

pub least-above : (set : List Bool) (from word least : ℕ) → ((k : ℕ) → from ≤ k → k / 64 ≡ from / 64 → contains set k ≡ false)
    → LeastFrom (used_words set) (from / 64 + 1) word → LeastFrom set (64 * word) least → LeastFrom set from least
least-above set from word least here above found = record {
  reached = omega (arith, above.reached, found.reached);
  member = found.member;
  first = λ k past below. elim (cases_eq (k / 64) (from / 64)) [
    | inl same ↦ here k past same
    | inr other ↦ elim (cases_lt (k / 64) word) [
      | inl before ↦ unused-none set k (above.first (k / 64) (omega arith) before)
      | inr behind ↦ found.first k (omega arith) below
    ]
  ];
}

-- the least member in a word that isn't 0
pub least-in-word : (set : List Bool) (words : List ℕ) → WordsKeep set words → (w : ℕ) → 0 < get_or words w 0
    → LeastFrom set (64 * w) (64 * w + trailing_zeros w64 (get_or words w 0))
least-in-word set words keeps w some =
    let word : (64 * w) / 64 ≡ w = omega arith in
    let place : (64 * w) % 64 ≡ 0 = omega arith in
    let whole : get_or words (64 * w / 64) 0 / 2 ^ (64 * w % 64) ≡ get_or words w 0
    = ap (λ s. get_or words (64 * w / 64) 0 / 2 ^ s) place ∙ div-one (get_or words (64 * w / 64) 0) ∙ ap (λ i. get_or words i 0) word in
    let least = (least-left set words keeps (64 * w) (omega (arith, whole))).1 in
    subst (λ n. LeastFrom set (64 * w) (64 * w + trailing_zeros w64 n)) whole least
