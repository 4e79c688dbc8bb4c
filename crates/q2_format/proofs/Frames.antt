-- What a write, a longer file or a buffer changes of what is read by place: the lemmas for the crates above.
use Rattle.std.proofs.Common.{◌≡◌, ℕ, ◌+◌, ◌-◌, ◌*◌, ◌%◌, ◌^◌, ◌<◌, ◌≤◌, inl, inr, false, not, eqb, ltb, List, [], ◌++◌, length, replicate, get_or, slice_index, sym, ap, ◌∙◌, arith}
use Rattle.std.proofs.Math.ListN.{set, length-set, get_or-append}
use Rattle.std.proofs.Math.Seq.{get_or-append_right}
use Rattle.std.proofs.lemmas.Bool.{cases_lt, cases_order, or_parts, or_from, not-false, not_from_true, ltb-true, lt-ltb}
use Rattle.std.proofs.lemmas.List.{ext_get_or, get_or_past, get_or-replicate, get_or-set_same, get_or-set_other, length-replicate, append-nil}
use Rattle.std.proofs.lemmas.Nat.{row_fits, same_from_place}
use Rattle.byteorder.specs.Endian.{big_bytes}
use Rattle.byteorder.specs.Numbers.{length-bytes_high_first}
use Rattle.q2_format.specs.Bytes.{number_at, place_bytes, words_at, ReadsAlike, IsWritten}
use Rattle.q2_format.specs.Sound.{is_misplaced}
use Rattle.q2_format.proofs.ByPlace.{number_at-within, number_at-before, number_at-behind, number_at-written, big_from-moved, get_or-bytes_at, get_or-words_at, length-words_at}

-- Rows of words.

-- a row of words depends on its bytes alone
pub words_at-alike : (old new : List ℕ) (at n : ℕ) → ReadsAlike old new at (8 * n) → words_at new at n ≡ words_at old at n
words_at-alike old new at n alike =
    let len_new = length-words_at new at n in
    let len_old = length-words_at old at n in
    ext_get_or 0 (words_at new at n) (words_at old at n) (len_new ∙ sym len_old)
    (λ k h. let below : k < n = omega (arith, len_new) in
    get_or-words_at new at n k below
    ∙ number_at-within old new at (8 * n) (at + 8 * k) 8 alike (omega arith) (omega arith)
    ∙ sym (get_or-words_at old at n k below))

-- a write on either side leaves a row
pub words_at-before : (old new : List ℕ) (place : ℕ) (bytes : List ℕ) → IsWritten old new place bytes → (at n : ℕ) → at + 8 * n ≤ place → words_at new at n ≡ words_at old at n
words_at-before old new place bytes w at n h = words_at-alike old new at n (record { same = λ i low high. w.outside i (inl (omega arith)) })

pub words_at-behind : (old new : List ℕ) (place : ℕ) (bytes : List ℕ) → IsWritten old new place bytes → (at n : ℕ) → place + length bytes ≤ at → words_at new at n ≡ words_at old at n
words_at-behind old new place bytes w at n h = words_at-alike old new at n (record { same = λ i low high. w.outside i (inr (omega arith)) })

-- a number of n bytes that was written is read back
pub written_number : (old new : List ℕ) (at n value : ℕ) → IsWritten old new at (big_bytes n value) → value < 256 ^ n → number_at new at n ≡ value
written_number old new at n value w fits =
    number_at-written old new at n value [] (big_bytes n value) w (sym (append-nil (big_bytes n value))) (length-bytes_high_first n value) fits

-- after one word was written, the row is as it was but for that word
pub words_at-set : (old new : List ℕ) (at n k word : ℕ) → k < n → IsWritten old new (at + 8 * k) (big_bytes 8 word) → word < 256 ^ 8
    → words_at new at n ≡ set (words_at old at n) k word
words_at-set old new at n k word h w fits =
    let eight = length-bytes_high_first 8 word in
    let len_new = length-words_at new at n in
    let len_old = length-words_at old at n in
    let same_length : length (words_at new at n) ≡ length (set (words_at old at n) k word) = rw length-set (len_new ∙ sym len_old) in
    ext_get_or 0 (words_at new at n) (set (words_at old at n) k word) same_length
    (λ i in_new. let below : i < n = omega (arith, len_new) in elim (cases_order i k) [
      | inl here ↦
          get_or-words_at new at n i below ∙ ap (λ (j : ℕ). number_at new (at + 8 * j) 8) here
          ∙ written_number old new (at + 8 * k) 8 word w fits
          ∙ sym (get_or-set_same (words_at old at n) k word 0 (omega (arith, len_old)))
          ∙ ap (λ (j : ℕ). get_or (set (words_at old at n) k word) j 0) (sym here)
      | inr (inl low) ↦
          get_or-words_at new at n i below ∙ number_at-before old new (at + 8 * k) (big_bytes 8 word) w (at + 8 * i) 8 (omega arith)
          ∙ sym (get_or-words_at old at n i below) ∙ sym (get_or-set_other (words_at old at n) k i word 0 (λ e. omega arith))
      | inr (inr high) ↦
          get_or-words_at new at n i below ∙ number_at-behind old new (at + 8 * k) (big_bytes 8 word) w (at + 8 * i) 8 (omega (arith, eight))
          ∙ sym (get_or-words_at old at n i below) ∙ sym (get_or-set_other (words_at old at n) k i word 0 (λ e. omega arith))
    ])

-- Buffers. What was read into a buffer reads there as in the file.

pub buffer_alike : (file : List ℕ) (n : ℕ) → ReadsAlike file (place_bytes file 0 n) 0 n
buffer_alike file n = record { same = λ i low high. get_or-bytes_at file 0 n i (omega arith) ∙ ap (λ (j : ℕ). get_or file j 0) (omega arith) }

pub number_at-bytes_at : (file : List ℕ) (at n i w : ℕ) → i + w ≤ n → number_at (place_bytes file at n) i w ≡ number_at file (at + i) w
unfolding number_at
number_at-bytes_at file at n i w h =
    big_from-moved w i (at + i) (place_bytes file at n) file
    (λ k below. get_or-bytes_at file at n (i + k) (omega arith) ∙ ap (λ (j : ℕ). get_or file j 0) (omega arith))

-- Longer files.

zeros_read : (n i : ℕ) → slice_index (replicate n 0) i ≡ 0
zeros_read n i = elim (cases_lt i n) [
  | inl inside ↦ get_or-replicate n i 0 0 inside
  | inr past ↦ get_or_past (replicate n 0) i 0 (omega (arith, length-replicate {A = ℕ} n 0))
]

-- zeros at a file's end change nothing that is read
pub padded : (file : List ℕ) (zeros_added i : ℕ) → slice_index (file ++ replicate zeros_added 0) i ≡ slice_index file i
padded file zeros_added i = elim (cases_lt i (length file)) [
  | inl inside ↦ get_or-append file (replicate zeros_added 0) 0 i inside
  | inr past ↦ get_or-append_right file (replicate zeros_added 0) i 0 past ∙ zeros_read zeros_added (i - length file) ∙ sym (get_or_past file i 0 past)
]

pub padded_alike : (file : List ℕ) (zeros_added at n : ℕ) → ReadsAlike file (file ++ replicate zeros_added 0) at n
padded_alike file zeros_added at n = record { same = λ i low high. padded file zeros_added i }

-- an offset in its place stays in its place in a longer file
pub placed_longer : (c len longer offset : ℕ) → len ≤ longer → is_misplaced c len offset ≡ false → is_misplaced c longer offset ≡ false
placed_longer c len longer offset grows placed =
    let parts = or_parts (not (eqb (offset % c) 0)) (not (ltb offset len)) placed in
    let inside = ltb-true offset len (not-false (ltb offset len) parts.1) in
    or_from (not (eqb (offset % c) 0)) (not (ltb offset longer)) parts.0 (not_from_true (ltb offset longer) (lt-ltb offset longer (omega (arith, inside))))

-- Clusters k < m lie apart.

pub cluster_before : (c k m : ℕ) → k < m → k * c + c ≤ m * c
cluster_before c k m h = row_fits k c m c h (omega arith)

pub one_place : (c k m i j : ℕ) → i < c → j < c → k * c + i ≡ m * c + j → (k ≡ m) × (i ≡ j)
one_place c k m i j hi hj e = same_from_place k i m j c hi hj e
