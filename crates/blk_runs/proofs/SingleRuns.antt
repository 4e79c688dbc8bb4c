-- Runs of one byte each at the front of some bytes.
use Rattle.std.proofs.Common.{◌-◌, ◌≤◌, w8, Fits, true, ltb, inl, inr, ◌≡◌, ◌≢◌, ℕ, zero, suc, ◌+◌, ◌*◌, ◌/◌, ◌%◌, ◌<◌, false, List, [], ◌∷◌, ◌++◌, length, take, drop, get_or, refl, ap, sym, ◌∙◌, arith, append_assoc, below_more, add-one}
use Rattle.std.specs.Str.{IsAscii}
use Rattle.std.specs.Fmt.{digit_glyph}
use Rattle.std.proofs.lemmas.Str.{IsAscii-append}
use Rattle.std.proofs.lemmas.Fmt.{decimal_digit}
use Rattle.std.specs.Simd.Lanes.{Each1, chunk}
use Rattle.std.proofs.Math.Seq.{take-add}
use Rattle.std.proofs.lemmas.Bool.{cases_lt, lt-ltb, le-ltb}
use Rattle.std.proofs.lemmas.Simd.{get_or-chunk, chunk-fits}
use Rattle.blk_runs.specs.Runs.{IsFront, runs_text}
use Rattle.blk_runs.specs.Singles.{AreSingle, HasSingles, single_text, singles_text}
use Rattle.blk_runs.proofs.FirstRun.{next_run}

behind : (n b : ℕ) (bytes : List ℕ) → AreSingle (suc n) (b ∷ bytes) → AreSingle n bytes
behind n b bytes are k below =
    let is = are (suc k) (omega arith) in
    (omega (arith, is.0), λ same. is.1 (same ∙ ap (λ i. get_or (b ∷ bytes) i 0) (let e : suc (k + 1) ≡ suc k + 1 = omega arith in e)))

-- the first of them is a run by itself
alone : (n b : ℕ) (bytes : List ℕ) → AreSingle (suc n) (b ∷ bytes) → IsFront b 0 bytes
alone n b bytes are = record {
  within = omega arith;
  same = λ k below. absurd (omega arith);
  ends = λ some same. (are 0 (omega arith)).1 (sym same);
}

-- their text, and that of the other runs
pub singles-first : (n : ℕ) (bytes : List ℕ) → AreSingle n bytes → runs_text bytes ≡ singles_text (take n bytes) ++ runs_text (drop n bytes)
singles-first zero bytes are = refl
singles-first (suc n) [] are = absurd (omega (arith, (are 0 (omega arith)).0))
singles-first (suc n) (b ∷ bytes) are =
    next_run b 0 bytes (alone n b bytes are) (omega (arith, (are 0 (omega arith)).0))
    ∙ ap (λ count. (digit_glyph false (b / 16) ∷ digit_glyph false (b % 16) ∷ 42 ∷ count) ++ 32 ∷ runs_text bytes) (decimal_digit 1 (omega arith))
    ∙ ap (λ text. single_text b ++ text) (singles-first n bytes (behind n b bytes are))

pub singles-more : (n : ℕ) (bytes : List ℕ) → n < length bytes → singles_text (take (n + 1) bytes) ≡ singles_text (take n bytes) ++ single_text (get_or bytes n 0)
singles-more n [] below = absurd (omega arith)
singles-more zero (b ∷ bytes) below = refl
singles-more (suc n) (b ∷ bytes) below = rw add-one (ap (λ text. single_text b ++ text) (rw add-one at (singles-more n bytes (omega arith))))

-- what is written once the text behind it was put down
pub singles-written : (n : ℕ) (bytes old new whole : List ℕ) → AreSingle n bytes → whole ≡ singles_text (take n bytes) → new ≡ old ++ whole
    → new ++ runs_text (drop n bytes) ≡ old ++ runs_text bytes
singles-written n bytes old new whole are is put =
    ap (λ text. text ++ runs_text (drop n bytes)) (put ∙ ap (λ text. old ++ text) is)
    ∙ append_assoc old (singles_text (take n bytes)) (runs_text (drop n bytes))
    ∙ ap (λ text. old ++ text) (sym (singles-first n bytes are))

singles-further : (n : ℕ) (bytes : List ℕ) → AreSingle n bytes → n + 1 < length bytes → get_or bytes n 0 ≢ get_or bytes (n + 1) 0 → AreSingle (n + 1) bytes
singles-further n bytes are room differ = below_more (λ k. (k + 1 < length bytes) × (get_or bytes k 0 ≢ get_or bytes (k + 1) 0)) n are (room, differ)

singles-append : (xs ys : List ℕ) → singles_text (xs ++ ys) ≡ singles_text xs ++ singles_text ys
singles-append [] ys = refl
singles-append (x ∷ xs) ys = ap (λ text. single_text x ++ text) (singles-append xs ys)

glyph-ascii : (d : ℕ) → d < 16 → digit_glyph false d < 128
glyph-ascii d small = elim (cases_lt d 10) [
  | inl below ↦ let is : ltb d 10 ≡ true = lt-ltb d 10 below in rw is (omega arith)
  | inr above ↦ let is : ltb d 10 ≡ false = le-ltb d 10 above in rw is (omega arith)
]

single-ascii : (b : ℕ) → b < 256 → IsAscii (single_text b)
single-ascii b small zero = glyph-ascii (b / 16) (omega arith)
single-ascii b small (suc zero) = glyph-ascii (b % 16) (omega arith)
single-ascii b small (suc (suc zero)) = omega arith
single-ascii b small (suc (suc (suc zero))) = omega arith
single-ascii b small (suc (suc (suc (suc zero)))) = omega arith
single-ascii b small (suc (suc (suc (suc (suc k))))) = omega arith

pub singles-ascii : (bytes : List ℕ) → Each1 (Fits w8) bytes → IsAscii (singles_text bytes)
singles-ascii [] fit = λ k. omega arith
singles-ascii (b ∷ bytes) fit = IsAscii-append (single_text b) (singles_text bytes) (single-ascii b fit.0.fits) (singles-ascii bytes fit.1)

-- the bytes of a slice at the front
pub front-fits : (n : ℕ) (bytes : List ℕ) → ((k : ℕ) → Fits w8 (get_or bytes k 0)) → Each1 (Fits w8) (take n bytes)
front-fits n bytes fit = chunk-fits w8 0 n bytes fit

pub no-singles : (bytes words : List ℕ) → HasSingles 0 bytes words
no-singles bytes words = record { single = λ k below. absurd (omega arith); within = omega arith; few = omega arith; written = refl }

-- one run more
pub single-more : (n : ℕ) (bytes old new : List ℕ) → HasSingles n bytes old → n < 256 → n + 1 < length bytes → get_or bytes n 0 ≢ get_or bytes (n + 1) 0
    → take (5 * n + 5) new ≡ take (5 * n) old ++ single_text (get_or bytes n 0) → HasSingles (n + 1) bytes new
single-more n bytes old new has few room differ put = record {
  single = singles-further n bytes has.single room differ;
  within = omega arith;
  few = omega arith;
  written =
      ap (λ i. take i new) (let e : 5 * (n + 1) ≡ 5 * n + 5 = omega arith in e) ∙ put ∙ ap (λ text. text ++ single_text (get_or bytes n 0)) has.written
      ∙ sym (singles-more n bytes (omega arith));
}

-- sixteen more
pub sixteen-more : (n : ℕ) (bytes old new : List ℕ) → HasSingles n bytes old → n + 16 ≤ 256 → n + 16 < length bytes
    → ((k : ℕ) → k < 16 → get_or (chunk n 16 bytes) k 0 ≢ get_or (chunk (n + 1) 16 bytes) k 0)
    → take (5 * n + 80) new ≡ take (5 * n) old ++ singles_text (chunk n 16 bytes) → HasSingles (n + 16) bytes new
sixteen-more n bytes old new has few room differ put = record {
  single = λ k below. elim (cases_lt k n) [
    | inl early ↦ has.single k early
    | inr late ↦ (
      omega arith,
      λ same. differ (k - n) (omega arith) (
          get_or-chunk n 16 bytes (k - n) 0 (omega arith) ∙ ap (λ i. get_or bytes i 0) (let e : n + (k - n) ≡ k = omega arith in e) ∙ same
          ∙ ap (λ i. get_or bytes i 0) (let e : k + 1 ≡ n + 1 + (k - n) = omega arith in e) ∙ sym (get_or-chunk (n + 1) 16 bytes (k - n) 0 (omega arith))),
    )
  ];
  within = omega arith;
  few = omega arith;
  written =
      ap (λ i. take i new) (let e : 5 * (n + 16) ≡ 5 * n + 80 = omega arith in e) ∙ put ∙ ap (λ text. text ++ singles_text (chunk n 16 bytes)) has.written
      ∙ sym (ap singles_text (take-add n 16 bytes) ∙ singles-append (take n bytes) (chunk n 16 bytes));
}
