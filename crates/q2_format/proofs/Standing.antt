-- What was read from a place on stands in a file that is as long, where all past its end is 0.
use Rattle.std.proofs.Common.{◌≡◌, ℕ, zero, suc, ◌+◌, ◌-◌, ◌*◌, ◌<◌, ◌≤◌, List, [], ◌++◌, length, get_or, slice_index, take, replicate, refl, sym, ap, ◌∙◌, arith, inl, inr}
use Rattle.std.proofs.lemmas.Bool.{cases_lt}
use Rattle.std.proofs.lemmas.List.{ext_get_or, get_or-append_right, get_or-replicate, get_or-take, get_or_append_left, get_or_past, length-append, length-replicate, length-take-le}
use Rattle.q2_format.specs.Bytes.{CanStandAt, number_at, words_at}
use Rattle.q2_format.proofs.ByPlace.{big_from-moved, get_or-words_at, length-words_at}

abbrev zeros : ℕ → List ℕ
zeros n = replicate n 0

-- the file of so many bytes that has these from a place on, and else zeros
abbrev pub file_with : ℕ → ℕ → List ℕ → List ℕ
file_with len at bytes = take len (zeros at ++ (bytes ++ zeros len))

pub length-file_with : (len at : ℕ) (bytes : List ℕ) → length (file_with len at bytes) ≡ len
length-file_with len at bytes =
    let all = length-append (zeros at) (bytes ++ zeros len) in
    let rest = length-append bytes (zeros len) in
    length-take-le len (zeros at ++ (bytes ++ zeros len)) (omega (arith, all, rest, length-replicate {A = ℕ} len 0))

filled : (bytes : List ℕ) (n i : ℕ) → get_or (bytes ++ zeros n) i 0 ≡ get_or bytes i 0
filled bytes n i = elim (cases_lt i (length bytes)) [
  | inl below ↦ get_or_append_left bytes (zeros n) 0 i below
  | inr past ↦ get_or-append_right bytes (zeros n) (length bytes) i 0 refl past ∙ nought (i - length bytes) ∙ sym (get_or_past bytes i 0 past)
]
  where
    nought : (k : ℕ) → get_or (zeros n) k 0 ≡ 0
    nought k = elim (cases_lt k n) [ inl below ↦ get_or-replicate n k 0 0 below | inr past ↦ get_or_past (zeros n) k 0 (omega (arith, length-replicate {A = ℕ} n 0)) ]

module _ (len at : ℕ) (bytes : List ℕ) (past : (k : ℕ) → len ≤ at + k → slice_index bytes k ≡ 0) where
  at_place : (i : ℕ) → get_or (file_with len at bytes) (at + i) 0 ≡ get_or bytes i 0
  at_place i = elim (cases_lt (at + i) len) [
    | inl below ↦
        get_or-take len (zeros at ++ (bytes ++ zeros len)) (at + i) 0 below
        ∙ get_or-append_right (zeros at) (bytes ++ zeros len) at (at + i) 0 (length-replicate {A = ℕ} at 0) (omega arith)
        ∙ ap (λ (k : ℕ). get_or (bytes ++ zeros len) k 0) (omega arith) ∙ filled bytes len i
    | inr above ↦ get_or_past (file_with len at bytes) (at + i) 0 (omega (arith, length-file_with len at bytes)) ∙ sym (past i above)
  ]

  -- a number of what was read is the file's
  pub number_stands : (i n : ℕ) → number_at bytes i n ≡ number_at (file_with len at bytes) (at + i) n
  unfolding number_at
  number_stands i n = big_from-moved n i (at + i) bytes (file_with len at bytes)
      (λ k below. sym (at_place (i + k)) ∙ ap (λ (j : ℕ). get_or (file_with len at bytes) j 0) (omega arith))

  -- words that were decoded from it
  pub words_stand : (words : List ℕ) → ((k : ℕ) → k < length words → slice_index words k ≡ number_at bytes (8 * k) 8) → CanStandAt len at words
  words_stand words each = record {
    file = file_with len at bytes;
    size = length-file_with len at bytes;
    are = ext_get_or 0 words (words_at (file_with len at bytes) at (length words)) (sym (length-words_at (file_with len at bytes) at (length words)))
        (λ k below. each k below ∙ number_stands (8 * k) 8 ∙ sym (get_or-words_at (file_with len at bytes) at (length words) k below));
  }

-- words of a file
pub file_stands : (file : List ℕ) (len at n : ℕ) → len ≡ length file → CanStandAt len at (words_at file at n)
file_stands file len at n size = record { file = file; size = sym size; are = ap (words_at file at) (sym (length-words_at file at n)) }

pub number_of_none : (i n : ℕ) → number_at [] i n ≡ 0
unfolding number_at
number_of_none i zero = refl
number_of_none i (suc n) = let rest = number_of_none (suc i) n in omega (arith, rest)

-- and zeros
pub zeros_stand : (len at n : ℕ) → CanStandAt len at (replicate n 0)
zeros_stand len at n = words_stand len at [] (λ k above. refl) (replicate n 0) (λ k below. each k below)
  where
    each : (k : ℕ) → k < length (replicate {A = ℕ} n 0) → slice_index (replicate n 0) k ≡ number_at [] (8 * k) 8
    each k below = get_or-replicate n k 0 0 (omega (arith, below, length-replicate {A = ℕ} n 0)) ∙ sym (number_of_none (8 * k) 8)
