-- What keeps a job ahead of its result.
use Rattle.std.proofs.Common.{◌≡◌, ◌⊎◌, ℕ, ◌+◌, ◌-◌, ◌<◌, ◌≤◌, Bool, true, false, List, length, get_or, refl, sym, ◌∙◌, ap, subst, inl, inr, arith}
use Rattle.std.specs.Prelude.{slice_index}
use Rattle.std.proofs.lemmas.Bool.{false≢true, cases_lt}
use Rattle.blk_base.specs.Content.{with_bytes}
use Rattle.blk_base.proofs.Contents.{get_or-with_bytes_outside, get_or-with_bytes_inside, length-with_bytes_within}
use Rattle.block_jobs.specs.Ahead.{IsPlaceAhead, IsAhead, AreAll, OwesNoMore}

-- a place lies in a stretch or apart from it
pub by_stretch : (P : Type 0) (at n i : ℕ) → (at ≤ i → i < at + n → P) → ((i < at) ⊎ (at + n ≤ i) → P) → P
by_stretch P at n i inside apart = elim (cases_lt i at) [
  | inl below ↦ apart (inl below)
  | inr from ↦ elim (cases_lt i (at + n)) [ inl less ↦ inside from less | inr past ↦ apart (inr past) ]
]

when_owed : (source goal made : ℕ) (b : Bool) → b ≡ true → source ≡ goal → IsPlaceAhead b source goal made
when_owed source goal made true is same = same
when_owed source goal made false is same = absurd (false≢true is)

pub written_is_owed : (due owed now : ℕ → Bool) (disk made : List ℕ) (at : ℕ) (xs : List ℕ) → at + length xs ≤ length disk → OwesNoMore owed now
    → AreAll true now at (length xs) → IsAhead due owed disk disk made → IsAhead due now (with_bytes disk at xs) (with_bytes disk at xs) made
written_is_owed due owed now disk made at xs within grows all ahead = record {
  source_whole = refl;
  made_whole = ahead.made_whole ∙ sym (length-with_bytes_within disk at xs within);
  at = λ i is. by_stretch (Now i) at (length xs) i (λ from less. when_owed (new i) (new i) (slice_index made i) (now i) (all i from less) refl)
      (λ apart. by_place i apart (now i) refl (owed i) refl (ahead.at i is));
}
  where
    new : ℕ → ℕ
    new i = slice_index (with_bytes disk at xs) i

    Now : ℕ → Type 0
    Now i = IsPlaceAhead (now i) (new i) (new i) (slice_index made i)

    by_place : (i : ℕ) → (i < at) ⊎ (at + length xs ≤ i) → (b : Bool) → now i ≡ b → (a : Bool) → owed i ≡ a
        → IsPlaceAhead a (slice_index disk i) (slice_index disk i) (slice_index made i) → IsPlaceAhead b (new i) (new i) (slice_index made i)
    by_place i apart true is a was place = refl
    by_place i apart false is true was place = absurd (false≢true (sym is ∙ grows i was))
    by_place i apart false is false was place = place ∙ sym (get_or-with_bytes_outside disk at xs i apart)

pub source_may_change : (due owed : ℕ → Bool) (source goal made : List ℕ) (at : ℕ) (xs : List ℕ) → at + length xs ≤ length source
    → AreAll false owed at (length xs) → IsAhead due owed source goal made → IsAhead due owed (with_bytes source at xs) goal made
source_may_change due owed source goal made at xs within none ahead = record {
  source_whole = length-with_bytes_within source at xs within ∙ ahead.source_whole;
  made_whole = ahead.made_whole;
  at = λ i is. by_stretch (Now i (owed i)) at (length xs) i (λ from less. inside i (owed i) (none i from less) (ahead.at i is))
      (λ apart. outside i apart (owed i) (ahead.at i is));
}
  where
    Now : ℕ → Bool → Type 0
    Now i b = IsPlaceAhead b (slice_index (with_bytes source at xs) i) (slice_index goal i) (slice_index made i)

    inside : (i : ℕ) (b : Bool) → b ≡ false → IsPlaceAhead b (slice_index source i) (slice_index goal i) (slice_index made i) → Now i b
    inside i true is place = absurd (false≢true (sym is))
    inside i false is place = place

    outside : (i : ℕ) → (i < at) ⊎ (at + length xs ≤ i) → (b : Bool) → IsPlaceAhead b (slice_index source i) (slice_index goal i) (slice_index made i) → Now i b
    outside i apart true place = get_or-with_bytes_outside source at xs i apart ∙ place
    outside i apart false place = place

pub both_are_written : (due owed : ℕ → Bool) (disk made : List ℕ) (at : ℕ) (xs : List ℕ) → at + length xs ≤ length disk
    → IsAhead due owed disk disk made → IsAhead due owed (with_bytes disk at xs) (with_bytes disk at xs) (with_bytes made at xs)
both_are_written due owed disk made at xs within ahead = record {
  source_whole = refl;
  made_whole = length-with_bytes_within made at xs (subst (λ n. at + length xs ≤ n) (sym ahead.made_whole) within) ∙ ahead.made_whole
      ∙ sym (length-with_bytes_within disk at xs within);
  at = λ i is. by_stretch (Now i (owed i)) at (length xs) i (λ from less. by_test i from less (owed i)) (λ apart. outside i apart (owed i) (ahead.at i is));
}
  where
    Now : ℕ → Bool → Type 0
    Now i b = IsPlaceAhead b (slice_index (with_bytes disk at xs) i) (slice_index (with_bytes disk at xs) i) (slice_index (with_bytes made at xs) i)

    put : (b : List ℕ) (i : ℕ) → at ≤ i → i < at + length xs → get_or (with_bytes b at xs) i 0 ≡ get_or xs (i - at) 0
    put b i from less =
        let e : at + (i - at) ≡ i = omega (arith, from) in
        ap (λ (j : ℕ). get_or (with_bytes b at xs) j 0) (sym e) ∙ get_or-with_bytes_inside b at xs (i - at) (omega (arith, from, less))

    by_test : (i : ℕ) → at ≤ i → i < at + length xs → (b : Bool) → Now i b
    by_test i from less true = refl
    by_test i from less false = put made i from less ∙ sym (put disk i from less)

    outside : (i : ℕ) → (i < at) ⊎ (at + length xs ≤ i) → (b : Bool) → IsPlaceAhead b (slice_index disk i) (slice_index disk i) (slice_index made i) → Now i b
    outside i apart true place = refl
    outside i apart false place = get_or-with_bytes_outside made at xs i apart ∙ place ∙ sym (get_or-with_bytes_outside disk at xs i apart)
