-- Truth values and the words that keep them.
use Rattle.std.proofs.Common.{◌≡◌, ◌⊎◌, ℕ, zero, suc, ◌+◌, ◌-◌, ◌*◌, ◌/◌, ◌%◌, ◌^◌, ◌<◌, ◌≤◌, min, max, Bool, true, false, not, cond, ◌&&◌, ◌||◌, eqb, List, [], ◌∷◌, ◌++◌, length, map, get_or, take, drop, replicate, refl, sym, ◌∙◌, ap, subst, arith, inl, inr, lit<}
use Rattle.std.specs.Prelude.{if◌then◌else◌}
use Rattle.std.specs.Int.{bit_at, div_ceil}
use Rattle.std.specs.Simd.Lanes.{mask_l}
use Rattle.std.specs.List.{range_with_len}
use Rattle.std.proofs.Math.ListN.{get_or-map}
use Rattle.std.proofs.Math.Nat.{pow-le-pow_right}
use Rattle.std.proofs.lemmas.Bool.{cases_lt, cases_eq}
use Rattle.std.proofs.lemmas.Bool.Decides.{nat_tests}
use Rattle.std.proofs.lemmas.Nat.Bits.{bit_at-lt, bit_at-zero, same_from_bits_below}
use Rattle.std.proofs.lemmas.Simd.{bit_mask_l, mask_l-lt}
use Rattle.std.proofs.lemmas.List.{get_or_past, get_or-take, get_or-drop, get_or-replicate, length-replicate, length-take, length-map}
use Rattle.std.proofs.lemmas.List.FromFn.{fill_by_all, length-map-range_with_len, get_or-map-range_with_len}
use Rattle.blk_bits.specs.Granules.{contains, those_below}
use Rattle.blk_bits.specs.Words.{word_count, words_of_bits, used_words, has_bit, bits_in, HasWords}
use Rattle.blk_bits.proofs.GranuleLemmas.{contains-those_below}

-- some words keep these truth values
pub record WordsKeep (set : List Bool) (words : List ℕ) : Type 0 where
  pub count : length words ≡ word_count (length set)
  pub bit : (k : ℕ) → has_bit words k ≡ contains set k
  pub fits : (k : ℕ) → get_or words k 0 < 2 ^ 64

pub length-bits_in : (count : ℕ) (words : List ℕ) → length (bits_in count words) ≡ count
length-bits_in count words = length-map-range_with_len (has_bit words) 0 count

pub keeps-bits_in : (count : ℕ) (words : List ℕ) → HasWords count words → WordsKeep (bits_in count words) words
keeps-bits_in count words has = record {
  count = has.enough ∙ ap word_count (sym (length-bits_in count words));
  bit = λ k. elim (cases_lt k count) [
    | inl below ↦ sym (contains-those_below count (has_bit words) k below)
    | inr past ↦ has.spare k past ∙ sym (get_or_past (bits_in count words) k false (omega (arith, length-bits_in count words)))
  ];
  fits = has.fits;
}

pub bits_in-kept : (set : List Bool) (count : ℕ) (words : List ℕ) → WordsKeep set words → count ≡ length set → bits_in count words ≡ set
bits_in-kept set count words keeps is = sym (fill_by_all (has_bit words) set count false (sym is) (λ k below. sym (keeps.bit k)))

pub has-words : (set : List Bool) (count : ℕ) (words : List ℕ) → WordsKeep set words → count ≡ length set → count < 2 ^ 64 → HasWords count words
has-words set count words keeps is small = record {
  enough = keeps.count ∙ ap word_count (sym is);
  spare = λ k past. keeps.bit k ∙ get_or_past set k false (omega arith);
  fits = keeps.fits;
  small = small;
}

one_bit : (bit : ℕ) (set : Bool) → bit < 2 → eqb bit 1 ≡ set → bit ≡ cond set 1 0
one_bit bit true below is = grind (arith, nat_tests)
one_bit bit false below is = grind (arith, nat_tests)

-- bit i of word w
pub bit-kept : (set : List Bool) (words : List ℕ) → WordsKeep set words → (w i : ℕ) → i < 64 → eqb (bit_at (get_or words w 0) i) 1 ≡ contains set (64 * w + i)
bit-kept set words keeps w i below =
    let word : (64 * w + i) / 64 ≡ w = omega arith in
    let place : (64 * w + i) % 64 ≡ i = omega arith in
    let is = keeps.bit (64 * w + i) in
    rw (word, place) at is

pub words-kept : (set : List Bool) (words : List ℕ) → WordsKeep set words → words ≡ words_of_bits set
unfolding words_of_bits
words-kept set words keeps =
    fill_by_all (λ w. mask_l (take (64 * w + 64 - 64 * w) (drop (64 * w) set))) words (word_count (length set)) 0 keeps.count
    (λ w below.
    let part = take (64 * w + 64 - 64 * w) (drop (64 * w) set) in
    let short : length part ≤ 64 = omega (arith, length-take (64 * w + 64 - 64 * w) (drop (64 * w) set)) in
    same_from_bits_below 64 (get_or words w 0) (mask_l part) (keeps.fits w) (small part short)
    (λ i inside.
    let at : get_or part i false ≡ contains set (64 * w + i)
    = get_or-take (64 * w + 64 - 64 * w) (drop (64 * w) set) i false (omega arith) ∙ get_or-drop (64 * w) set i false in
    one_bit (bit_at (get_or words w 0) i) (contains set (64 * w + i)) (bit_at-lt (get_or words w 0) i) (bit-kept set words keeps w i inside)
    ∙ ap (λ b. cond b 1 0) (sym at) ∙ sym (bit_mask_l part i)))
  where
    small : (part : List Bool) → length part ≤ 64 → mask_l part < 2 ^ 64
    small part short = omega (arith, mask_l-lt part, pow-le-pow_right {n = 2} (lit< tt) {i = length part} {j = 64} short)

pub length-used_words : (set : List Bool) → length (used_words set) ≡ word_count (length set)
unfolding used_words words_of_bits
length-used_words set =
    length-map (words_of_bits set) (λ word. not (eqb word 0))
    ∙ length-map-range_with_len (λ w. mask_l (take (64 * w + 64 - 64 * w) (drop (64 * w) set))) 0 (word_count (length set))

pub used-kept : (set : List Bool) (words : List ℕ) → WordsKeep set words → (i : ℕ) → contains (used_words set) i ≡ not (eqb (get_or words i 0) 0)
unfolding used_words
used-kept set words keeps i =
    get_or-map (λ word. not (eqb word 0)) (words_of_bits set) i 0 ∙ ap (λ ws. not (eqb (get_or ws i 0) 0)) (sym (words-kept set words keeps))

-- the words of some truth values keep them
pub keeps-words_of : (set : List Bool) → WordsKeep set (words_of_bits set)
unfolding words_of_bits
keeps-words_of set = record {
  count = length-map-range_with_len part_word 0 (word_count (length set));
  bit = λ k. elim (cases_lt (k / 64) (word_count (length set))) [
    | inl below ↦
        let at : get_or (map part_word (range_with_len 0 (word_count (length set)))) (k / 64) 0 ≡ part_word (k / 64)
        = get_or-map-range_with_len part_word 0 (word_count (length set)) (k / 64) (k / 64) 0 below (omega arith) in
        let here : 64 * (k / 64) + k % 64 ≡ k = omega arith in
        let bit : get_or (part (k / 64)) (k % 64) false ≡ contains set k
        = get_or-take (64 * (k / 64) + 64 - 64 * (k / 64)) (drop (64 * (k / 64)) set) (k % 64) false (omega arith)
        ∙ get_or-drop (64 * (k / 64)) set (k % 64) false ∙ ap (λ i. contains set i) here in
        rw (at, bit_mask_l (part (k / 64)) (k % 64), bit) (back (contains set k))
    | inr past ↦
        let at : get_or (map part_word (range_with_len 0 (word_count (length set)))) (k / 64) 0 ≡ 0
        = get_or_past (map part_word (range_with_len 0 (word_count (length set)))) (k / 64) 0 (omega (arith, length-map-range_with_len part_word 0 (word_count (length set)))) in
        let none : contains set k ≡ false = get_or_past set k false (omega arith) in
        rw (at, none, bit_at-zero (k % 64)) refl
  ];
  fits = λ w. elim (cases_lt w (word_count (length set))) [
    | inl below ↦ rw (get_or-map-range_with_len part_word 0 (word_count (length set)) w w 0 below (omega arith)) (small (part w) (omega (arith, length-take (64 * w + 64 - 64 * w) (drop (64 * w) set))))
    | inr past ↦ rw (get_or_past (map part_word (range_with_len 0 (word_count (length set)))) w 0 (omega (arith, length-map-range_with_len part_word 0 (word_count (length set))))) (lit< tt)
  ];
}
  where
    part : ℕ → List Bool
    part w = take (64 * w + 64 - 64 * w) (drop (64 * w) set)

    part_word : ℕ → ℕ
    part_word w = mask_l (part w)

    small : (bits : List Bool) → length bits ≤ 64 → mask_l bits < 2 ^ 64
    small bits short = omega (arith, mask_l-lt bits, pow-le-pow_right {n = 2} (lit< tt) {i = length bits} {j = 64} short)

    back : (b : Bool) → eqb (cond b 1 0) 1 ≡ b
    back true = refl
    back false = refl

-- a word without a bit is 0
pub word_zero : (words : List ℕ) (w : ℕ) → ((k : ℕ) → get_or words k 0 < 2 ^ 64) → ((k : ℕ) → k / 64 ≡ w → has_bit words k ≡ false) → get_or words w 0 ≡ 0
word_zero words w fits none = same_from_bits_below 64 (get_or words w 0) 0 (fits w) (lit< tt) (λ i below.
    let word : (64 * w + i) / 64 ≡ w = omega arith in
    let place : (64 * w + i) % 64 ≡ i = omega arith in
    let is = none (64 * w + i) word in
    let bit : eqb (bit_at (get_or words w 0) i) 1 ≡ false = rw (word, place) at is in
    clear (bit_at (get_or words w 0) i) (bit_at-lt (get_or words w 0) i) bit ∙ sym (bit_at-zero i))
  where
    clear : (bit : ℕ) → bit < 2 → eqb bit 1 ≡ false → bit ≡ 0
    clear bit below is = grind (arith, nat_tests)

-- and a word that is 0 has none
pub no_bit : (words : List ℕ) (k : ℕ) → get_or words (k / 64) 0 ≡ 0 → has_bit words k ≡ false
no_bit words k is = rw (is, bit_at-zero (k % 64)) refl

-- words with the same bits
pub word_same : (old new : List ℕ) (w : ℕ) → ((k : ℕ) → get_or old k 0 < 2 ^ 64) → ((k : ℕ) → get_or new k 0 < 2 ^ 64)
    → ((k : ℕ) → k / 64 ≡ w → has_bit new k ≡ has_bit old k) → get_or new w 0 ≡ get_or old w 0
word_same old new w old-fits new-fits same = same_from_bits_below 64 (get_or new w 0) (get_or old w 0) (new-fits w) (old-fits w) (λ i below.
    let word : (64 * w + i) / 64 ≡ w = omega arith in
    let place : (64 * w + i) % 64 ≡ i = omega arith in
    let is = same (64 * w + i) word in
    let bits : eqb (bit_at (get_or new w 0) i) 1 ≡ eqb (bit_at (get_or old w 0) i) 1 = rw (word, place) at is in
    equal (bit_at (get_or new w 0) i) (bit_at (get_or old w 0) i) (bit_at-lt (get_or new w 0) i) (bit_at-lt (get_or old w 0) i) bits)
  where
    equal : (a b : ℕ) → a < 2 → b < 2 → eqb a 1 ≡ eqb b 1 → a ≡ b
    equal a b a-below b-below is = grind (arith, nat_tests)

-- where no word is used, there is no member
pub unused-none : (set : List Bool) (k : ℕ) → contains (used_words set) (k / 64) ≡ false → contains set k ≡ false
unused-none set k none =
    let keeps = keeps-words_of set in
    let zero_word : not (eqb (get_or (words_of_bits set) (k / 64) 0) 0) ≡ false = sym (used-kept set (words_of_bits set) keeps (k / 64)) ∙ none in
    sym (keeps.bit k) ∙ no_bit (words_of_bits set) k (was (get_or (words_of_bits set) (k / 64) 0) zero_word)
  where
    was : (n : ℕ) → not (eqb n 0) ≡ false → n ≡ 0
    was n is = grind (arith, nat_tests)

same_word : (n w x : ℕ) → get_or (replicate n x) w x ≡ x
same_word n w x = elim (cases_lt w n) [
  | inl below ↦ get_or-replicate n w x x below
  | inr past ↦ get_or_past (replicate n x) w x (omega (arith, length-replicate n x))
]

zero_bits : (n k : ℕ) → has_bit (replicate n 0) k ≡ false
zero_bits n k = rw (same_word n (k / 64) 0, bit_at-zero (k % 64)) refl

-- words of zeros keep no member
pub no_members : (count : ℕ) → bits_in count (replicate (div_ceil count 64) 0) ≡ replicate count false
no_members count = sym (fill_by_all (has_bit (replicate (div_ceil count 64) 0)) (replicate count false) count false (length-replicate count false)
    (λ k below. get_or-replicate count k false false below ∙ sym (zero_bits (div_ceil count 64) k)))

pub has-zeros : (count : ℕ) → count < 2 ^ 64 → HasWords count (replicate (div_ceil count 64) 0)
has-zeros count small = record {
  enough = length-replicate (div_ceil count 64) 0 ∙ rounded;
  spare = λ k past. zero_bits (div_ceil count 64) k;
  fits = λ k. rw (same_word (div_ceil count 64) k 0) (lit< tt);
  small = small;
}
  where
    rounded : div_ceil count 64 ≡ word_count count
    rounded = omega arith
