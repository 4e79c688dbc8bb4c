-- The levels above a set.
use Rattle.std.proofs.Common.{◌≡◌, ◌≢◌, ◌⊎◌, ℕ, zero, suc, ◌+◌, ◌-◌, ◌*◌, ◌/◌, ◌<◌, ◌≤◌, Bool, true, false, not, ◌||◌, eqb, List, [], ◌∷◌, ◌++◌, length, get_or, replicate, refl, sym, ◌∙◌, ap, arith, inl, inr}
use Rattle.std.proofs.lemmas.Bool.{cases_lt, cases_eq}
use Rattle.std.proofs.lemmas.List.{get_or_past, get_or-replicate, length-replicate, get_or_append_left, get_or-append_right, length-append}
use Rattle.blk_bits.specs.Granules.{contains, LeastFrom, HasNoneFrom}
use Rattle.blk_bits.specs.Words.{word_count, words_of_bits, used_words, kept_at, AreAbove, IsAboveLast}
use Rattle.blk_bits.proofs.LevelLemmas.{length-used_words, used-kept, keeps-words_of, word_zero}
use Rattle.blk_bits.proofs.WriteLemmas.{same_sets}

-- how many truth values level k keeps depends on their number alone
pub length-kept_at : (set other : List Bool) (k : ℕ) → length set ≡ length other → length (kept_at set k) ≡ length (kept_at other k)
length-kept_at set other zero same = same
length-kept_at set other (suc k) same =
    length-used_words (kept_at set k) ∙ ap word_count (length-kept_at set other k same) ∙ sym (length-used_words (kept_at other k))

-- above the first level
pub kept_at-used_words : (set : List Bool) (k : ℕ) → kept_at (used_words set) k ≡ kept_at set (suc k)
kept_at-used_words set zero = refl
kept_at-used_words set (suc k) = ap used_words (kept_at-used_words set k)

-- the levels above a set with none, and those above one with a first
pub last-level : (set : List Bool) (levels : List (List Bool)) → AreAbove set levels → length levels ≡ 0 → word_count (length set) ≤ 1
last-level set levels above none =
    let top : word_count (length (kept_at set (length levels))) ≤ 1 = above.last in
    let is = ap (λ k. word_count (length (kept_at set k))) none in
    omega (arith, top, is)

pub next-level : (set next : List Bool) (rest : List (List Bool)) → AreAbove set (next ∷ rest) → next ≡ used_words set
next-level set next rest above = above.kept 0 (omega arith)

pub levels-above : (set next : List Bool) (rest : List (List Bool)) → AreAbove set (next ∷ rest) → AreAbove next rest
levels-above set next rest above =
    let is : next ≡ used_words set = above.kept 0 (omega arith) in
    rw is (record {
      kept = λ k below. above.kept (suc k) (omega arith) ∙ sym (kept_at-used_words set (suc k));
      several = λ k below.
          let more = above.several (suc k) (omega arith) in
          let same = ap (λ s. word_count (length s)) (kept_at-used_words set k) in
          omega (arith, more, same);
      last =
          let top = above.last in
          let same = ap (λ s. word_count (length s)) (kept_at-used_words set (length rest)) in
          omega (arith, top, same);
    })

-- a search in a level with nothing above it
pub none-at-top : (set : List Bool) (from : ℕ) → word_count (length set) ≤ 1 → HasNoneFrom (used_words set) (from / 64 + 1)
none-at-top set from top k past = get_or_past (used_words set) k false (omega (arith, length-used_words set))

-- levels of two sets of as many are as many
pub same-height : (set other : List Bool) (levels others : List (List Bool)) → AreAbove set levels → AreAbove other others → length set ≡ length other
    → length levels ≡ length others
same-height set other levels others above others-above same = elim (cases_lt (length levels) (length others)) [
  | inl less ↦
      let more = others-above.several (length levels) less in
      let top = above.last in
      let count = ap word_count (length-kept_at set other (length levels) same) in
      absurd (omega (arith, more, top, count))
  | inr most ↦ elim (cases_lt (length others) (length levels)) [
    | inl less ↦
        let more = above.several (length others) less in
        let top = others-above.last in
        let count = ap word_count (length-kept_at set other (length others) same) in
        absurd (omega (arith, more, top, count))
    | inr least ↦ omega arith
  ]
]

-- levels that keep what those of a set of as many keep
pub levels-of : (set new : List Bool) (levels : List (List Bool)) (old : List (List Bool)) → AreAbove set old → length new ≡ length set → length levels ≡ length old
    → ((k : ℕ) → k < length levels → get_or levels k [] ≡ kept_at new (suc k)) → AreAbove new levels
levels-of set new levels old above count height kept = record {
  kept = kept;
  several = λ k below.
      let more = above.several k (omega arith) in
      let same = ap word_count (length-kept_at new set k count) in
      omega (arith, more, same);
  last =
      let top = above.last in
      let same = ap word_count (length-kept_at new set (length levels) count) in
      let here = ap (λ k. word_count (length (kept_at set k))) height in
      omega (arith, top, same, here);
}

-- the levels of a set, by their numbers
pub first-kept : (set : List Bool) → kept_at set 0 ≡ set
first-kept set = refl

-- a level that is there isn't above the last one
pub not-above-last : (set : List Bool) (levels : List (List Bool)) (k : ℕ) → AreAbove set levels → k < length levels → IsAboveLast set (suc k) → ⊥
not-above-last set levels k above below top = omega (arith, above.several k below, top)

-- one that isn't there is above it
pub counts-fall : (set : List Bool) (k j : ℕ) → word_count (length (kept_at set k)) ≤ 1 → word_count (length (kept_at set (k + j))) ≤ 1
counts-fall set k zero top =
    let same = ap (λ i. word_count (length (kept_at set i))) (let e : k + 0 ≡ k = omega arith in e) in
    omega (arith, same, top)
counts-fall set k (suc j) top =
    let below = counts-fall set k j top in
    let next : k + suc j ≡ suc (k + j) = omega arith in
    let is = ap (λ i. word_count (length (kept_at set i))) next in
    let count = length-used_words (kept_at set (k + j)) in
    omega (arith, below, is, count)

pub above-last : (set : List Bool) (levels : List (List Bool)) (k : ℕ) → AreAbove set levels → length levels ≤ k → IsAboveLast set (suc k)
above-last set levels k above past =
    let few = counts-fall set (length levels) (k - length levels) above.last in
    let here = ap (λ i. word_count (length (kept_at set i))) (let e : length levels + (k - length levels) ≡ k = omega arith in e) in
    omega (arith, few, here)

-- sets without members
same_everywhere : {X : Type 0} (n k : ℕ) (x : X) → get_or (replicate n x) k x ≡ x
same_everywhere n k x = elim (cases_lt k n) [
  | inl below ↦ get_or-replicate n k x x below
  | inr past ↦ get_or_past (replicate n x) k x (omega (arith, length-replicate n x))
]

pub used-clean : (n : ℕ) → used_words (replicate n false) ≡ replicate (word_count n) false
used-clean n =
    let keeps = keeps-words_of (replicate n false) in
    same_sets (used_words (replicate n false)) (replicate (word_count n) false)
    (length-used_words (replicate n false) ∙ ap word_count (length-replicate n false) ∙ sym (length-replicate (word_count n) false))
    (λ i.
    let zero_word = word_zero (words_of_bits (replicate n false)) i keeps.fits (λ k here. keeps.bit k ∙ same_everywhere n k false) in
    used-kept (replicate n false) (words_of_bits (replicate n false)) keeps i ∙ ap (λ word. not (eqb word 0)) zero_word ∙ sym (same_everywhere (word_count n) i false))

pub clean-kept : (n k : ℕ) → kept_at (replicate n false) k ≡ replicate (length (kept_at (replicate n false) k)) false
clean-kept n zero = ap (λ m. replicate m false) (sym (length-replicate n false))
clean-kept n (suc k) =
    ap used_words (clean-kept n k) ∙ used-clean (length (kept_at (replicate n false) k))
    ∙ ap (λ m. replicate m false) (sym (length-used_words (kept_at (replicate n false) k)))

-- one more level above those of a set without members
pushed-length : (levels new : List (List Bool)) (level : List Bool) → new ≡ levels ++ level ∷ [] → length new ≡ length levels + 1
pushed-length levels new level is = ap length is ∙ length-append levels (level ∷ [])

pub kept-pushed : (n words : ℕ) (levels new : List (List Bool)) (level : List Bool) → new ≡ levels ++ level ∷ [] → level ≡ replicate words false
    → words ≡ word_count (length (kept_at (replicate n false) (length levels)))
    → ((k : ℕ) → k < length levels → get_or levels k [] ≡ kept_at (replicate n false) (suc k))
    → (k : ℕ) → k < length new → get_or new k [] ≡ kept_at (replicate n false) (suc k)
kept-pushed n words levels new level is clean count kept k below = elim (cases_lt k (length levels)) [
  | inl before ↦ ap (λ ls. get_or ls k []) is ∙ get_or_append_left levels (level ∷ []) [] k before ∙ kept k before
  | inr past ↦
      let last : k ≡ length levels = omega (arith, pushed-length levels new level is) in
      let place : k - length levels ≡ 0 = omega arith in
      let above : level ≡ kept_at (replicate n false) (suc (length levels))
      = clean ∙ ap (λ m. replicate m false) (count ∙ sym (length-used_words (kept_at (replicate n false) (length levels)))) ∙ sym (clean-kept n (suc (length levels))) in
      ap (λ ls. get_or ls k []) is ∙ get_or-append_right levels (level ∷ []) (length levels) k [] refl past
      ∙ ap (λ i. get_or (level ∷ []) i []) place ∙ above ∙ ap (λ i. kept_at (replicate n false) (suc i)) (sym last)
]

pub several-pushed : (n words : ℕ) (levels new : List (List Bool)) (level : List Bool) → new ≡ levels ++ level ∷ []
    → words ≡ word_count (length (kept_at (replicate n false) (length levels))) → 1 < words
    → ((k : ℕ) → k < length levels → 1 < word_count (length (kept_at (replicate n false) k)))
    → (k : ℕ) → k < length new → 1 < word_count (length (kept_at (replicate n false) k))
several-pushed n words levels new level is count more several k below = elim (cases_lt k (length levels)) [
  | inl before ↦ several k before
  | inr past ↦
      let last : k ≡ length levels = omega (arith, pushed-length levels new level is) in
      let here = ap (λ i. word_count (length (kept_at (replicate n false) i))) last in
      omega (arith, here, count)
]

pub next-pushed : (n words next : ℕ) (levels new : List (List Bool)) (level : List Bool) → new ≡ levels ++ level ∷ []
    → words ≡ word_count (length (kept_at (replicate n false) (length levels))) → next ≡ word_count words
    → next ≡ word_count (length (kept_at (replicate n false) (length new)))
next-pushed n words next levels new level is count next-is =
    let size : length new ≡ suc (length levels) = omega (arith, pushed-length levels new level is) in
    next-is ∙ ap word_count (count ∙ sym (length-used_words (kept_at (replicate n false) (length levels))))
    ∙ ap (λ i. word_count (length (kept_at (replicate n false) i))) (sym size)
