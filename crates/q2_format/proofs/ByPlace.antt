-- What is read from a file by place: it reads the same where the bytes do, and what was written reads back.
use Rattle.std.proofs.Common.{◌≡◌, ℕ, zero, suc, ◌+◌, ◌-◌, ◌*◌, ◌^◌, ◌<◌, ◌≤◌, inl, inr, List, ◌++◌, length, take, drop, get_or, slice_index, ⊎_elim, refl, sym, ap, ◌∙◌, subst, arith, add-zero}
use Rattle.std.proofs.lemmas.List.{ext_get_or, get_or-append-add, get_or-take, get_or-drop, length-take, length-append}
use Rattle.std.proofs.Math.ListN.{get_or-append}
use Rattle.std.proofs.Math.Seq.{get_or-append_right}
use Rattle.std.proofs.lemmas.List.FromFn.{get_or-map-range_with_len, length-map-range_with_len}
use Rattle.byteorder.specs.Endian.{big_from, big_bytes}
use Rattle.byteorder.specs.Numbers.{big_number-reads_back}
use Rattle.q2_format.specs.Bytes.{number_at, place_bytes, words_at, ReadsAlike, IsWritten}

-- eight bytes are two halves of four
pub number_at-halves : (file : List ℕ) (at : ℕ) → number_at file at 8 ≡ number_at file at 4 * 4294967296 + number_at file (at + 4) 4
unfolding number_at
number_at-halves file at = let four : at + 4 ≡ suc (suc (suc (suc at))) = omega arith in rw four (omega arith)

-- a number depends on its bytes alone
big_from-alike : (n at : ℕ) (old new : List ℕ) → ((i : ℕ) → at ≤ i → i < at + n → slice_index new i ≡ slice_index old i) → big_from at n new ≡ big_from at n old
big_from-alike zero at old new same = refl
big_from-alike (suc n) at old new same =
    let here : slice_index new at ≡ slice_index old at = same at (omega arith) (omega arith) in
    let rest = big_from-alike n (suc at) old new (λ i low high. same i (omega arith) (omega arith)) in
    rw (here, rest) refl

pub number_at-alike : (old new : List ℕ) (at n : ℕ) → ReadsAlike old new at n → number_at new at n ≡ number_at old at n
unfolding number_at
number_at-alike old new at n alike = big_from-alike n at old new alike.same

-- the same with the halves read before
pub eight_from_halves : (file : List ℕ) (at high low : ℕ) → high ≡ number_at file at 4 → low ≡ number_at file (at + 4) 4 → number_at file at 8 ≡ high * 4294967296 + low
eight_from_halves file at high low h l = rw (h, l) (number_at-halves file at)

-- files that read alike over a part read alike within it
pub alike_within : (old new : List ℕ) (from len at n : ℕ) → ReadsAlike old new from len → from ≤ at → at + n ≤ from + len → ReadsAlike old new at n
alike_within old new from len at n alike low high = record { same = λ i above below. alike.same i (omega arith) (omega arith) }

pub number_at-within : (old new : List ℕ) (from len at n : ℕ) → ReadsAlike old new from len → from ≤ at → at + n ≤ from + len → number_at new at n ≡ number_at old at n
number_at-within old new from len at n alike low high = number_at-alike old new at n (alike_within old new from len at n alike low high)

-- bytes by their places
pub get_or-bytes_at : (file : List ℕ) (at n i : ℕ) → i < n → get_or (place_bytes file at n) i 0 ≡ slice_index file (at + i)
unfolding place_bytes
get_or-bytes_at file at n i h = get_or-map-range_with_len (λ j. slice_index file j) at n i (at + i) 0 h refl

pub length-bytes_at : (file : List ℕ) (at n : ℕ) → length (place_bytes file at n) ≡ n
unfolding place_bytes
length-bytes_at file at n = length-map-range_with_len (λ j. slice_index file j) at n

-- a list that has the bytes of those places is their list
pub bytes_from_places : (file xs : List ℕ) (at : ℕ) → ((k : ℕ) → k < length xs → get_or xs k 0 ≡ slice_index file (at + k)) → xs ≡ place_bytes file at (length xs)
bytes_from_places file xs at same =
    ext_get_or 0 xs (place_bytes file at (length xs)) (sym (length-bytes_at file at (length xs)))
    (λ i h. same i h ∙ sym (get_or-bytes_at file at (length xs) i h))

pub bytes_at-alike : (old new : List ℕ) (at n : ℕ) → ReadsAlike old new at n → place_bytes new at n ≡ place_bytes old at n
bytes_at-alike old new at n alike =
    let len_new = length-bytes_at new at n in
    let len_old = length-bytes_at old at n in
    ext_get_or 0 (place_bytes new at n) (place_bytes old at n) (len_new ∙ sym len_old)
    (λ i h. get_or-bytes_at new at n i (omega (arith, len_new)) ∙ alike.same (at + i) (omega arith) (omega (arith, len_new)) ∙ sym (get_or-bytes_at old at n i (omega (arith, len_new))))

pub bytes_at-within : (old new : List ℕ) (from len at n : ℕ) → ReadsAlike old new from len → from ≤ at → at + n ≤ from + len → place_bytes new at n ≡ place_bytes old at n
bytes_at-within old new from len at n alike low high = bytes_at-alike old new at n (alike_within old new from len at n alike low high)

-- the bytes that were written
pub bytes_at-written : (old new : List ℕ) (at : ℕ) (bytes : List ℕ) → IsWritten old new at bytes → place_bytes new at (length bytes) ≡ bytes
bytes_at-written old new at bytes w = sym (bytes_from_places new bytes at (λ k h. sym (w.inside k h)))

-- words by their places
pub get_or-words_at : (file : List ℕ) (at n k : ℕ) → k < n → get_or (words_at file at n) k 0 ≡ number_at file (at + 8 * k) 8
unfolding words_at
get_or-words_at file at n k h = get_or-map-range_with_len (λ j. number_at file (at + 8 * j) 8) 0 n k k 0 h (omega arith)

pub length-words_at : (file : List ℕ) (at n : ℕ) → length (words_at file at n) ≡ n
unfolding words_at
length-words_at file at n = length-map-range_with_len (λ j. number_at file (at + 8 * j) 8) 0 n

-- Writes. What is written at a place is read back there, and all else reads as before.

-- a list with bytes put in
module _ (old bytes : List ℕ) (at : ℕ) (fits : at + length bytes ≤ length old) where
  front_length : length (take at old) ≡ at
  front_length = rw length-take (omega arith)

  head_length : length (take at old ++ bytes) ≡ at + length bytes
  head_length = rw (length-append, front_length) refl

  put_inside : (i : ℕ) → i < length bytes → slice_index ((take at old ++ bytes) ++ drop (at + length bytes) old) (at + i) ≡ slice_index bytes i
  put_inside i h =
      let head = get_or-append (take at old ++ bytes) (drop (at + length bytes) old) 0 (at + i) (omega (arith, head_length)) in
      let tail = get_or-append-add (take at old) bytes i 0 in
      let moved = rw front_length at tail in
      head ∙ moved

  put_before : (i : ℕ) → i < at → slice_index ((take at old ++ bytes) ++ drop (at + length bytes) old) i ≡ slice_index old i
  put_before i h =
      get_or-append (take at old ++ bytes) (drop (at + length bytes) old) 0 i (omega (arith, head_length))
      ∙ get_or-append (take at old) bytes 0 i (omega (arith, front_length))
      ∙ get_or-take at old i 0 h

  put_behind : (i : ℕ) → at + length bytes ≤ i → slice_index ((take at old ++ bytes) ++ drop (at + length bytes) old) i ≡ slice_index old i
  put_behind i h =
      let place : at + length bytes + (i - length (take at old ++ bytes)) ≡ i = omega (arith, head_length) in
      get_or-append_right (take at old ++ bytes) (drop (at + length bytes) old) i 0 (omega (arith, head_length))
      ∙ get_or-drop (at + length bytes) old (i - length (take at old ++ bytes)) 0
      ∙ ap (λ (j : ℕ). get_or old j 0) place

pub written_by_list : (old new bytes : List ℕ) (at : ℕ) → at + length bytes ≤ length old
    → new ≡ (take at old ++ bytes) ++ drop (at + length bytes) old → IsWritten old new at bytes
written_by_list old new bytes at fits is =
    let put : IsWritten old ((take at old ++ bytes) ++ drop (at + length bytes) old) at bytes = record {
      inside = put_inside old bytes at fits;
      outside = λ i side. ⊎_elim (λ h. put_before old bytes at fits i h) (λ h. put_behind old bytes at fits i h) side;
    } in
    subst (λ (xs : List ℕ). IsWritten old xs at bytes) (sym is) put

-- numbers on either side of a write
pub number_at-before : (old new : List ℕ) (at : ℕ) (bytes : List ℕ) → IsWritten old new at bytes → (i n : ℕ) → i + n ≤ at → number_at new i n ≡ number_at old i n
number_at-before old new at bytes w i n h = number_at-alike old new i n (record { same = λ j low high. w.outside j (inl (omega arith)) })

pub number_at-behind : (old new : List ℕ) (at : ℕ) (bytes : List ℕ) → IsWritten old new at bytes → (i n : ℕ) → at + length bytes ≤ i → number_at new i n ≡ number_at old i n
number_at-behind old new at bytes w i n h = number_at-alike old new i n (record { same = λ j low high. w.outside j (inr (omega arith)) })

-- a number moves with its bytes
pub big_from-moved : (n i j : ℕ) (xs ys : List ℕ) → ((k : ℕ) → k < n → slice_index xs (i + k) ≡ slice_index ys (j + k)) → big_from i n xs ≡ big_from j n ys
big_from-moved zero i j xs ys same = refl
big_from-moved (suc n) i j xs ys same =
    let here : slice_index xs i ≡ slice_index ys j = let first = same 0 (omega arith) in simp add-zero at first in
    let rest = big_from-moved n (suc i) (suc j) xs ys (λ k h. let next = same (suc k) (omega arith) in
    let left : suc i + k ≡ i + suc k = omega arith in
    let right : suc j + k ≡ j + suc k = omega arith in
    rw (left, right) next) in
    rw (here, rest) refl

-- the number that was written
pub number_at-written : (old new : List ℕ) (at n value : ℕ) (rest bytes : List ℕ) → IsWritten old new at bytes
    → bytes ≡ big_bytes n value ++ rest → length bytes ≡ n → value < 256 ^ n → number_at new at n ≡ value
unfolding number_at
number_at-written old new at n value rest bytes w is len fits =
    let moved = big_from-moved n at 0 new bytes (λ k h. let inside = w.inside k (omega arith) in let place : 0 + k ≡ k = omega arith in rw place inside) in
    moved ∙ rw is (big_number-reads_back n value rest fits)

-- bytes that are 0 make the number 0
big_from-zeros : (n at : ℕ) (file : List ℕ) → ((i : ℕ) → at ≤ i → i < at + n → slice_index file i ≡ 0) → big_from at n file ≡ 0
big_from-zeros zero at file zeros_there = refl
big_from-zeros (suc n) at file zeros_there =
    let here = zeros_there at (omega arith) (omega arith) in
    let rest = big_from-zeros n (suc at) file (λ i low high. zeros_there i (omega arith) (omega arith)) in
    rw (here, rest) (omega arith)

pub number_at-zeros : (file : List ℕ) (at n : ℕ) → ((i : ℕ) → at ≤ i → i < at + n → slice_index file i ≡ 0) → number_at file at n ≡ 0
unfolding number_at
number_at-zeros file at n zeros_there = big_from-zeros n at file zeros_there
