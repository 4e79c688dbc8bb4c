-- What a write of a span, and a join, leave of words and of which of them aren't 0.
use Rattle.std.proofs.Common.{◌≡◌, ◌≢◌, ◌⊎◌, ℕ, suc, ◌+◌, ◌-◌, ◌*◌, ◌/◌, ◌%◌, ◌^◌, ◌<◌, ◌≤◌, min, max, Bool, true, false, not, ◌&&◌, ◌||◌, eqb, List, [], ◌++◌, length, get_or, take, drop, subst, append-nil, refl, sym, ◌∙◌, ap, arith, inl, inr}
use Rattle.std.specs.Prelude.{if◌then◌else◌}
use Rattle.std.specs.Int.{bit_at}
use Rattle.std.specs.Int.Bits.{bit_or}
use Rattle.std.proofs.lemmas.Nat.Bits.{bit_at_or, bit_at-lt}
use Rattle.std.proofs.Math.ListN.{set}
use Rattle.std.proofs.Math.Seq.{take-length}
use Rattle.std.proofs.lemmas.Bool.{cases_lt, cases_eq, cases_Bool}
use Rattle.std.proofs.lemmas.Bool.Decides.{nat_tests}
use Rattle.std.proofs.lemmas.List.{get_or_past, get_or-set_same, get_or-set_other, same_lists, get_or_default, length-drop, nil_from_length}
use Rattle.std.proofs.lemmas.List.FromFn.{length-map-range_with_len}
use Rattle.blk_bits.specs.Granules.{contains, in_span, those_below, with_span, without_span}
use Rattle.blk_bits.specs.Words.{word_count, used_words, has_bit, bits_in, HasWords, with_written, either, lacks}
use Rattle.blk_bits.proofs.GranuleLemmas.{contains-those_below}
use Rattle.blk_bits.proofs.LevelLemmas.{WordsKeep, keeps-bits_in, bits_in-kept, has-words, length-bits_in, length-used_words, used-kept, word_zero, word_same, no_bit}

pub length-with_written : (set : List Bool) (from to : ℕ) (value : Bool) → length (with_written set from to value) ≡ length set
length-with_written set from to true = length-map-range_with_len (λ k. contains set k || in_span from to k) 0 (length set)
length-with_written set from to false = length-map-range_with_len (λ k. contains set k && not (in_span from to k)) 0 (length set)

added : (here was : Bool) → (was || here) ≡ (if here then true else was)
added true true = refl
added true false = refl
added false true = refl
added false false = refl

removed : (here was : Bool) → (was && not here) ≡ (if here then false else was)
removed true true = refl
removed true false = refl
removed false true = refl
removed false false = refl

inside : (set : List Bool) (from to k : ℕ) (value : Bool) → k < length set
    → contains (with_written set from to value) k ≡ (if in_span from to k then value else contains set k)
inside set from to k true below = contains-those_below (length set) (λ k. contains set k || in_span from to k) k below ∙ added (in_span from to k) (contains set k)
inside set from to k false below = contains-those_below (length set) (λ k. contains set k && not (in_span from to k)) k below ∙ removed (in_span from to k) (contains set k)

pub with_written-at : (set : List Bool) (from to k : ℕ) (value : Bool) → to ≤ length set
    → contains (with_written set from to value) k ≡ (if in_span from to k then value else contains set k)
with_written-at set from to k value within = elim (cases_lt k (length set)) [
  | inl below ↦ inside set from to k value below
  | inr past ↦
      let none : contains (with_written set from to value) k ≡ false = get_or_past (with_written set from to value) k false (omega (arith, length-with_written set from to value)) in
      let was : contains set k ≡ false = get_or_past set k false past in
      let outside : in_span from to k ≡ false = grind (arith, nat_tests) in
      rw (none, outside, was) refl
]

-- two sets with the same members below the same count
pub same_sets : (set other : List Bool) → length set ≡ length other → ((k : ℕ) → contains set k ≡ contains other k) → set ≡ other
same_sets set other count same = same_lists set other count (λ k d below.
    get_or_default set k d false below ∙ same k ∙ sym (get_or_default other k d false (omega arith)))

pub nothing_written : (set : List Bool) (from : ℕ) (value : Bool) → from ≤ length set → set ≡ with_written set from from value
nothing_written set from value within = same_sets set (with_written set from from value) (sym (length-with_written set from from value)) (λ k.
    let outside : in_span from from k ≡ false = grind (arith, nat_tests) in
    sym (with_written-at set from from k value within ∙ rw outside refl))

pub keeps-written : (set : List Bool) (old new : List ℕ) (from to : ℕ) (value : Bool) → WordsKeep set old → to ≤ length set → length new ≡ length old
    → ((k : ℕ) → has_bit new k ≡ (if in_span from to k then value else has_bit old k)) → ((k : ℕ) → get_or new k 0 < 2 ^ 64)
    → WordsKeep (with_written set from to value) new
keeps-written set old new from to value keeps within size bits fits = record {
  count = size ∙ keeps.count ∙ ap word_count (sym (length-with_written set from to value));
  bit = λ k.
      let was = keeps.bit k in
      let now = bits k in
      let is = with_written-at set from to k value within in
      rw (was) at now ∙ sym is;
  fits = fits;
}

lacks-le : (word : ℕ) (value : Bool) → lacks word value ≤ 1
lacks-le word true = grind (arith, nat_tests)
lacks-le word false = grind (arith, nat_tests)

lacks_none : (word : ℕ) → eqb word 0 ≡ true → lacks word false ≡ 0
lacks_none word is = rw is refl

lacks_used : (word : ℕ) → eqb word 0 ≡ false → lacks word false ≡ 1
lacks_used word is = rw is refl

-- a word with no bit in the span
apart : (old new : List ℕ) (from to i : ℕ) (value : Bool) → ((k : ℕ) → get_or old k 0 < 2 ^ 64) → ((k : ℕ) → get_or new k 0 < 2 ^ 64)
    → ((k : ℕ) → has_bit new k ≡ (if in_span from to k then value else has_bit old k))
    → from < to → (i < from / 64) ⊎ ((to - 1) / 64 < i) → get_or new i 0 ≡ get_or old i 0
apart old new from to i value old-fits new-fits bits some (inl before) = word_same old new i old-fits new-fits (λ k here.
    let outside : in_span from to k ≡ false = grind (arith, nat_tests) in
    bits k ∙ rw outside refl)
apart old new from to i value old-fits new-fits bits some (inr behind) = word_same old new i old-fits new-fits (λ k here.
    let outside : in_span from to k ≡ false = grind (arith, nat_tests) in
    bits k ∙ rw outside refl)

-- a word in which a bit was set
set_word : (old new : List ℕ) (from to i : ℕ) → ((k : ℕ) → has_bit new k ≡ (if in_span from to k then true else has_bit old k))
    → from < to → from / 64 ≤ i → i ≤ (to - 1) / 64 → not (eqb (get_or new i 0) 0) ≡ true
set_word old new from to i bits some first last =
    let here : max from (64 * i) / 64 ≡ i = omega arith in
    let within : in_span from to (max from (64 * i)) ≡ true = grind (arith, nat_tests) in
    let bit : has_bit new (max from (64 * i)) ≡ true = bits (max from (64 * i)) ∙ rw within refl in
    used (get_or new i 0) (λ zero. absurd (differ (sym bit ∙ no_bit new (max from (64 * i)) (ap (λ w. get_or new w 0) here ∙ zero))))
  where
    differ : true ≡ false → ⊥
    differ e = cc

    used : (n : ℕ) → (n ≡ 0 → ⊥) → not (eqb n 0) ≡ true
    used n some = grind (arith, nat_tests)

-- a word of which all bits were cleared
cleared_word : (old new : List ℕ) (from to i : ℕ) → ((k : ℕ) → get_or new k 0 < 2 ^ 64) → ((k : ℕ) → has_bit new k ≡ (if in_span from to k then false else has_bit old k))
    → from / 64 < i → i < (to - 1) / 64 → get_or new i 0 ≡ 0
cleared_word old new from to i fits bits first last = word_zero new i fits (λ k here.
    let within : in_span from to k ≡ true = grind (arith, nat_tests) in
    bits k ∙ rw within refl)

-- a word that isn't 0 after some bits were cleared wasn't 0 before
was_used : (old new : List ℕ) (from to i : ℕ) → ((k : ℕ) → get_or new k 0 < 2 ^ 64) → ((k : ℕ) → has_bit new k ≡ (if in_span from to k then false else has_bit old k))
    → eqb (get_or new i 0) 0 ≡ false → eqb (get_or old i 0) 0 ≡ false
was_used old new from to i fits bits some = elim (cases_eq (get_or old i 0) 0) [
  | inl zero ↦ absurd (differs (get_or new i 0) (word_zero new i fits (λ k here.
      let was : has_bit old k ≡ false = no_bit old k (ap (λ w. get_or old w 0) here ∙ zero) in
      bits k ∙ rw was (both (in_span from to k)))) some)
  | inr used ↦ grind (arith, nat_tests)
]
  where
    differs : (n : ℕ) → n ≡ 0 → eqb n 0 ≡ false → ⊥
    differs n zero some = grind (arith, nat_tests)

    both : (here : Bool) → (if here then false else false) ≡ false
    both true = refl
    both false = refl

-- which words aren't 0 after a span was written: those that were wholly written have turned, and at the ends those that lack nothing
turned : (old new : List ℕ) (from to i f t : ℕ) (value : Bool) → ((k : ℕ) → get_or old k 0 < 2 ^ 64) → ((k : ℕ) → get_or new k 0 < 2 ^ 64)
    → ((k : ℕ) → has_bit new k ≡ (if in_span from to k then value else has_bit old k)) → from < to
    → f ≡ from / 64 + lacks (get_or new (from / 64) 0) value
    → t ≡ max ((to - 1) / 64 + 1 - lacks (get_or new ((to - 1) / 64) 0) value) f
    → (i < from / 64) ⊎ (from / 64 ≤ i) → (i ≤ (to - 1) / 64) ⊎ ((to - 1) / 64 < i)
    → not (eqb (get_or new i 0) 0) ≡ (if in_span f t i then value else not (eqb (get_or old i 0) 0))
turned old new from to i f t value old-fits new-fits bits some f-is t-is (inl before) last =
    let first-le = lacks-le (get_or new (from / 64) 0) value in
    let same = apart old new from to i value old-fits new-fits bits some (inl before) in
    let outside : in_span f t i ≡ false = grind (arith, nat_tests) in
    rw (same, outside) refl
turned old new from to i f t value old-fits new-fits bits some f-is t-is (inr first) (inr behind) =
    let first-le = lacks-le (get_or new (from / 64) 0) value in
    let last-le = lacks-le (get_or new ((to - 1) / 64) 0) value in
    let same = apart old new from to i value old-fits new-fits bits some (inr behind) in
    let order : from / 64 ≤ (to - 1) / 64 = omega arith in
    let outside : in_span f t i ≡ false = grind (arith, nat_tests) in
    rw (same, outside) refl
turned old new from to i f t true old-fits new-fits bits some f-is t-is (inr first) (inl last) =
    let order : from / 64 ≤ (to - 1) / 64 = omega arith in
    let here = set_word old new from to i bits some first last in
    let begin = set_word old new from to (from / 64) bits some (omega arith) order in
    let end = set_word old new from to ((to - 1) / 64) bits some order (omega arith) in
    let within : in_span f t i ≡ true = grind (arith, nat_tests) in
    rw (here, within) refl
turned old new from to i f t false old-fits new-fits bits some f-is t-is (inr first) (inl last) =
    cleared (cases_eq i (from / 64)) (cases_eq i ((to - 1) / 64)) (cases_Bool (eqb (get_or new i 0) 0))
  where
    differs : (n : ℕ) → n ≡ 0 → eqb n 0 ≡ false → ⊥
    differs n zero some = grind (arith, nat_tests)

    ends : (i ≡ (to - 1) / 64) ⊎ (i ≢ (to - 1) / 64) → eqb (get_or new i 0) 0 ≡ true → i < t
    ends (inl end) zero =
        let last-none : lacks (get_or new ((to - 1) / 64) 0) false ≡ 0 = lacks_none (get_or new ((to - 1) / 64) 0) (ap (λ w. eqb (get_or new w 0) 0) (sym end) ∙ zero) in
        omega arith
    ends (inr end) zero = omega (arith, lacks-le (get_or new ((to - 1) / 64) 0) false)

    cleared : (i ≡ from / 64) ⊎ (i ≢ from / 64) → (i ≡ (to - 1) / 64) ⊎ (i ≢ (to - 1) / 64) → (eqb (get_or new i 0) 0 ≡ true) ⊎ (eqb (get_or new i 0) 0 ≡ false)
        → not (eqb (get_or new i 0) 0) ≡ (if in_span f t i then false else not (eqb (get_or old i 0) 0))
    cleared (inl begin) end (inr used) =
        let f-more : f ≡ from / 64 + 1 = f-is ∙ ap (λ n. from / 64 + n) (lacks_used (get_or new (from / 64) 0) (ap (λ w. eqb (get_or new w 0) 0) (sym begin) ∙ used)) in
        let outside : in_span f t i ≡ false = grind (arith, nat_tests) in
        let was = was_used old new from to i new-fits bits used in
        rw (outside, used, was) refl
    cleared (inr begin) (inl end) (inr used) =
        let first-le = lacks-le (get_or new (from / 64) 0) false in
        let last-one : lacks (get_or new ((to - 1) / 64) 0) false ≡ 1 = lacks_used (get_or new ((to - 1) / 64) 0) (ap (λ w. eqb (get_or new w 0) 0) (sym end) ∙ used) in
        let t-le : t ≤ i = omega arith in
        let outside : in_span f t i ≡ false = grind (arith, nat_tests) in
        let was = was_used old new from to i new-fits bits used in
        rw (outside, used, was) refl
    cleared (inr begin) (inr end) (inr used) =
        absurd (differs (get_or new i 0) (cleared_word old new from to i new-fits bits (omega arith) (omega arith)) used)
    cleared (inl begin) end (inl zero) =
        let f-same : f ≡ from / 64 + 0 = f-is ∙ ap (λ n. from / 64 + n) (lacks_none (get_or new (from / 64) 0) (ap (λ w. eqb (get_or new w 0) 0) (sym begin) ∙ zero)) in
        let t-more : i < t = ends (cases_eq i ((to - 1) / 64)) zero in
        let within : in_span f t i ≡ true = grind (arith, nat_tests) in
        rw (within, zero) refl
    cleared (inr begin) end (inl zero) =
        let first-le = lacks-le (get_or new (from / 64) 0) false in
        let t-more : i < t = ends (cases_eq i ((to - 1) / 64)) zero in
        let within : in_span f t i ≡ true = grind (arith, nat_tests) in
        rw (within, zero) refl

-- the words that a write of a span turns, as a span
pub used-written : (set : List Bool) (old new : List ℕ) (from to f t : ℕ) (value : Bool) → WordsKeep set old → WordsKeep (with_written set from to value) new
    → ((k : ℕ) → has_bit new k ≡ (if in_span from to k then value else has_bit old k)) → from < to → to ≤ length set
    → f ≡ from / 64 + lacks (get_or new (from / 64) 0) value
    → t ≡ max ((to - 1) / 64 + 1 - lacks (get_or new ((to - 1) / 64) 0) value) f
    → used_words (with_written set from to value) ≡ with_written (used_words set) f t value
used-written set old new from to f t value keeps keeps-new bits some within f-is t-is =
    let count : length (used_words (with_written set from to value)) ≡ length (with_written (used_words set) f t value)
    = length-used_words (with_written set from to value) ∙ ap word_count (length-with_written set from to value)
    ∙ sym (length-with_written (used_words set) f t value ∙ length-used_words set) in
    let below : t ≤ length (used_words set)
    = omega (arith, length-used_words set, lacks-le (get_or new (from / 64) 0) value, lacks-le (get_or new ((to - 1) / 64) 0) value) in
    same_sets (used_words (with_written set from to value)) (with_written (used_words set) f t value) count (λ i.
    used-kept (with_written set from to value) new keeps-new i
    ∙ turned old new from to i f t value keeps.fits keeps-new.fits bits some f-is t-is (cases_lt i (from / 64)) (last i)
    ∙ ap (λ b. if in_span f t i then value else b) (sym (used-kept set old keeps i))
    ∙ sym (with_written-at (used_words set) f t i value below))
  where
    last : (i : ℕ) → (i ≤ (to - 1) / 64) ⊎ ((to - 1) / 64 < i)
    last i = elim (cases_lt ((to - 1) / 64) i) [ inl behind ↦ inr behind | inr within ↦ inl within ]

-- a join of two sets of as many
pub length-either : (set other : List Bool) → length (either set other) ≡ length set
length-either set other = length-map-range_with_len (λ k. contains set k || contains other k) 0 (length set)

pub either-at : (set other : List Bool) (k : ℕ) → length other ≤ length set → contains (either set other) k ≡ (contains set k || contains other k)
either-at set other k count = elim (cases_lt k (length set)) [
  | inl below ↦ contains-those_below (length set) (λ i. contains set i || contains other i) k below
  | inr past ↦
      let none : contains (either set other) k ≡ false = get_or_past (either set other) k false (omega (arith, length-either set other)) in
      let mine : contains set k ≡ false = get_or_past set k false past in
      let theirs : contains other k ≡ false = get_or_past other k false (omega arith) in
      rw (none, mine, theirs) refl
]

pub keeps-either : (set other : List Bool) (old words new : List ℕ) → WordsKeep set old → WordsKeep other words → length set ≡ length other → length new ≡ length old
    → ((k : ℕ) → has_bit new k ≡ (has_bit old k || has_bit words k)) → ((k : ℕ) → get_or new k 0 < 2 ^ 64) → WordsKeep (either set other) new
keeps-either set other old words new keeps keeps-other count size bits fits = record {
  count = size ∙ keeps.count ∙ ap word_count (sym (length-either set other));
  bit = λ k.
      let mine = keeps.bit k in
      let theirs = keeps-other.bit k in
      let now = bits k in
      rw (mine, theirs) at now ∙ sym (either-at set other k (omega arith));
  fits = fits;
}

either_used : (old words new : List ℕ) (i : ℕ) → ((k : ℕ) → get_or old k 0 < 2 ^ 64) → ((k : ℕ) → get_or words k 0 < 2 ^ 64) → ((k : ℕ) → get_or new k 0 < 2 ^ 64)
    → ((k : ℕ) → has_bit new k ≡ (has_bit old k || has_bit words k))
    → not (eqb (get_or new i 0) 0) ≡ (not (eqb (get_or old i 0) 0) || not (eqb (get_or words i 0) 0))
either_used old words new i old-fits words-fits new-fits bits = parts (cases_eq (get_or new i 0) 0) (cases_eq (get_or old i 0) 0) (cases_eq (get_or words i 0) 0)
  where
    bit : (k : ℕ) → k / 64 ≡ i → get_or new i 0 ≡ 0 → (has_bit old k || has_bit words k) ≡ false
    bit k here zero = sym (bits k) ∙ no_bit new k (ap (λ w. get_or new w 0) here ∙ zero)

    left : (a b : Bool) → (a || b) ≡ false → a ≡ false
    left true b e = absurd (differ e) where
      differ : true ≡ false → ⊥
      differ e = cc
    left false b e = refl

    right : (a b : Bool) → (a || b) ≡ false → b ≡ false
    right true b e = absurd (differ e) where
      differ : true ≡ false → ⊥
      differ e = cc
    right false b e = e

    neither : (a b : Bool) → a ≡ false → b ≡ false → (a || b) ≡ false
    neither a b p q = rw (p, q) refl

    parts : (get_or new i 0 ≡ 0) ⊎ (get_or new i 0 ≢ 0) → (get_or old i 0 ≡ 0) ⊎ (get_or old i 0 ≢ 0) → (get_or words i 0 ≡ 0) ⊎ (get_or words i 0 ≢ 0)
        → not (eqb (get_or new i 0) 0) ≡ (not (eqb (get_or old i 0) 0) || not (eqb (get_or words i 0) 0))
    parts (inl zero) a b =
        let old-zero = word_zero old i old-fits (λ k here. left (has_bit old k) (has_bit words k) (bit k here zero)) in
        let words-zero = word_zero words i words-fits (λ k here. right (has_bit old k) (has_bit words k) (bit k here zero)) in
        rw (zero, old-zero, words-zero) refl
    parts (inr used) (inl old-zero) (inl words-zero) = absurd (used (word_zero new i new-fits (λ k here.
        bits k ∙ neither (has_bit old k) (has_bit words k) (no_bit old k (ap (λ w. get_or old w 0) here ∙ old-zero)) (no_bit words k (ap (λ w. get_or words w 0) here ∙ words-zero)))))
    parts (inr used) (inr old-used) b = grind (arith, nat_tests)
    parts (inr used) (inl old-zero) (inr words-used) = grind (arith, nat_tests)

pub used-either : (set other : List Bool) (old words new : List ℕ) → WordsKeep set old → WordsKeep other words → WordsKeep (either set other) new → length set ≡ length other
    → ((k : ℕ) → has_bit new k ≡ (has_bit old k || has_bit words k)) → used_words (either set other) ≡ either (used_words set) (used_words other)
used-either set other old words new keeps keeps-other keeps-new count bits =
    let counts : length (used_words other) ≡ length (used_words set) = length-used_words other ∙ ap word_count (sym count) ∙ sym (length-used_words set) in
    same_sets (used_words (either set other)) (either (used_words set) (used_words other))
    (length-used_words (either set other) ∙ ap word_count (length-either set other) ∙ sym (length-either (used_words set) (used_words other) ∙ length-used_words set))
    (λ i. used-kept (either set other) new keeps-new i ∙ either_used old words new i keeps.fits keeps-other.fits keeps-new.fits bits
    ∙ ap (λ b. b || not (eqb (get_or words i 0) 0)) (sym (used-kept set old keeps i)) ∙ ap (λ b. contains (used_words set) i || b) (sym (used-kept other words keeps-other i))
    ∙ sym (either-at (used_words set) (used_words other) i (omega arith)))

-- a slice of a whole list is put back
pub put_back : (items new : List ℕ) (n : ℕ) → length new ≡ length items → n ≡ length items → take n (new ++ drop (length new) items) ≡ new
put_back items new n size is =
    let none : drop (length new) items ≡ [] = nil_from_length (drop (length new) items) (omega (arith, length-drop (length new) items)) in
    let all : n ≡ length new = omega arith in
    rw (none, append-nil) (ap (λ i. take i new) all ∙ take-length new)

-- a span of the words that keep a set was written
pub record AreWordsWritten (set : List Bool) (count : ℕ) (old new : List ℕ) (from to : ℕ) (value : Bool) : Type 0 where
  pub view : bits_in count old ≡ set
  pub has : HasWords count old
  pub size : length new ≡ length old
  pub bits : (k : ℕ) → has_bit new k ≡ (if in_span from to k then value else has_bit old k)
  pub fits : (k : ℕ) → get_or new k 0 < 2 ^ 64
  pub some : from < to
  pub within : to ≤ length set

pub written-before : (set : List Bool) (count : ℕ) (old new : List ℕ) (from to : ℕ) (value : Bool) → AreWordsWritten set count old new from to value → WordsKeep set old
written-before set count old new from to value is = subst (λ s. WordsKeep s old) is.view (keeps-bits_in count old is.has)

pub written-after : (set : List Bool) (count : ℕ) (old new : List ℕ) (from to : ℕ) (value : Bool) → AreWordsWritten set count old new from to value
    → WordsKeep (with_written set from to value) new
written-after set count old new from to value is =
    keeps-written set old new from to value (written-before set count old new from to value is) is.within is.size is.bits is.fits

written-count : (set : List Bool) (count : ℕ) (old new : List ℕ) (from to : ℕ) (value : Bool) → AreWordsWritten set count old new from to value
    → count ≡ length (with_written set from to value)
written-count set count old new from to value is = sym (length-bits_in count old) ∙ ap length is.view ∙ sym (length-with_written set from to value)

pub written-has : (set : List Bool) (count : ℕ) (old new : List ℕ) (from to : ℕ) (value : Bool) → AreWordsWritten set count old new from to value → HasWords count new
written-has set count old new from to value is =
    has-words (with_written set from to value) count new (written-after set count old new from to value is) (written-count set count old new from to value is) is.has.small

pub written-view : (set : List Bool) (count : ℕ) (old new : List ℕ) (from to : ℕ) (value : Bool) → AreWordsWritten set count old new from to value
    → bits_in count new ≡ with_written set from to value
written-view set count old new from to value is =
    bits_in-kept (with_written set from to value) count new (written-after set count old new from to value is) (written-count set count old new from to value is)

pub written-used : (set : List Bool) (count : ℕ) (old new : List ℕ) (from to f t : ℕ) (value : Bool) → AreWordsWritten set count old new from to value
    → f ≡ from / 64 + lacks (get_or new (from / 64) 0) value
    → t ≡ max ((to - 1) / 64 + 1 - lacks (get_or new ((to - 1) / 64) 0) value) f
    → used_words (bits_in count new) ≡ with_written (used_words set) f t value
written-used set count old new from to f t value is f-is t-is =
    ap used_words (written-view set count old new from to value is)
    ∙ used-written set old new from to f t value (written-before set count old new from to value is) (written-after set count old new from to value is)
    is.bits is.some is.within f-is t-is

-- words that were joined one by one
pub bits-joined : (old words new : List ℕ) → length old ≡ length words → length new ≡ length old
    → ((i : ℕ) → i < length old → get_or new i 0 ≡ bit_or (get_or old i 0) (get_or words i 0))
    → (k : ℕ) → has_bit new k ≡ (has_bit old k || has_bit words k)
bits-joined old words new count size joined k = elim (cases_lt (k / 64) (length old)) [
  | inl below ↦ rw (joined (k / 64) below, bit_at_or (get_or old (k / 64) 0) (get_or words (k / 64) 0) (k % 64))
      (greater (bit_at (get_or old (k / 64) 0) (k % 64)) (bit_at (get_or words (k / 64) 0) (k % 64)) (bit_at-lt (get_or old (k / 64) 0) (k % 64)) (bit_at-lt (get_or words (k / 64) 0) (k % 64)))
  | inr past ↦
      let none = no_bit new k (get_or_past new (k / 64) 0 (omega arith)) in
      let mine = no_bit old k (get_or_past old (k / 64) 0 past) in
      let theirs = no_bit words k (get_or_past words (k / 64) 0 (omega arith)) in
      rw (none, mine, theirs) refl
]
  where
    greater : (a b : ℕ) → a < 2 → b < 2 → eqb (max a b) 1 ≡ (eqb a 1 || eqb b 1)
    greater a b a-below b-below = grind (arith, nat_tests)

-- the words of a set of as many were joined to those that keep a set
pub record AreWordsJoined (set other : List Bool) (count : ℕ) (old words new : List ℕ) : Type 0 where
  pub view : bits_in count old ≡ set
  pub has : HasWords count old
  pub keeps : WordsKeep other words
  pub same : length set ≡ length other
  pub size : length new ≡ length old
  pub bits : (k : ℕ) → has_bit new k ≡ (has_bit old k || has_bit words k)
  pub fits : (k : ℕ) → get_or new k 0 < 2 ^ 64

pub joined-before : (set other : List Bool) (count : ℕ) (old words new : List ℕ) → AreWordsJoined set other count old words new → WordsKeep set old
joined-before set other count old words new is = subst (λ s. WordsKeep s old) is.view (keeps-bits_in count old is.has)

pub joined-after : (set other : List Bool) (count : ℕ) (old words new : List ℕ) → AreWordsJoined set other count old words new → WordsKeep (either set other) new
joined-after set other count old words new is =
    keeps-either set other old words new (joined-before set other count old words new is) is.keeps is.same is.size is.bits is.fits

pub joined-count : (set other : List Bool) (count : ℕ) (old words new : List ℕ) → AreWordsJoined set other count old words new → count ≡ length (either set other)
joined-count set other count old words new is = sym (length-bits_in count old) ∙ ap length is.view ∙ sym (length-either set other)

pub joined-has : (set other : List Bool) (count : ℕ) (old words new : List ℕ) → AreWordsJoined set other count old words new → HasWords count new
joined-has set other count old words new is =
    has-words (either set other) count new (joined-after set other count old words new is) (joined-count set other count old words new is) is.has.small

pub joined-view : (set other : List Bool) (count : ℕ) (old words new : List ℕ) → AreWordsJoined set other count old words new → bits_in count new ≡ either set other
joined-view set other count old words new is =
    bits_in-kept (either set other) count new (joined-after set other count old words new is) (joined-count set other count old words new is)

pub joined-used : (set other : List Bool) (count : ℕ) (old words new : List ℕ) → AreWordsJoined set other count old words new
    → used_words (bits_in count new) ≡ either (used_words set) (used_words other)
joined-used set other count old words new is =
    ap used_words (joined-view set other count old words new is)
    ∙ used-either set other old words new (joined-before set other count old words new is) is.keeps (joined-after set other count old words new is) is.same is.bits

pub fits-set : (words : List ℕ) (k x : ℕ) → k < length words → x < 2 ^ 64 → ((i : ℕ) → get_or words i 0 < 2 ^ 64) → (i : ℕ) → get_or (set words k x) i 0 < 2 ^ 64
fits-set words k x there small fits i = elim (cases_eq i k) [
  | inl same ↦ rw (same, get_or-set_same words k x 0 there) small
  | inr other ↦ rw (get_or-set_other words k i x 0 other) (fits i)
]
