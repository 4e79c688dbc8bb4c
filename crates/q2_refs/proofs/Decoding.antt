-- Numbers that were decoded from a buffer are those at their places of the file.
use Rattle.std.proofs.Common.{◌≡◌, ℕ, ◌+◌, ◌*◌, ◌<◌, ◌≤◌, List, length, get_or, slice_index, drop, take, sym, ap, ◌∙◌, arith}
use Rattle.std.proofs.lemmas.List.{ext_get_or, get_or-drop, get_or-take}
use Rattle.byteorder.specs.Endian.{big_number}
use Rattle.blk_base.specs.Content.{bytes_at as read_bytes}
use Rattle.blk_base.proofs.Contents.{get_or-bytes_at as get_or-read_bytes}
use Rattle.q2_format.specs.Bytes.{number_at, words_at}
use Rattle.q2_format.proofs.ByPlace.{big_from-moved, get_or-words_at, length-words_at}

-- the number at the front of what is left behind a place
pub number_behind : (bytes : List ℕ) (n at : ℕ) → big_number n (drop at bytes) ≡ number_at bytes at n
unfolding number_at
number_behind bytes n at = big_from-moved n 0 at (drop at bytes) bytes (λ k h. get_or-drop at bytes (0 + k) 0 ∙ ap (λ (i : ℕ). get_or bytes i 0) (omega arith))

-- the same where the list of bytes ends behind the number
pub number_within : (bytes : List ℕ) (n at len : ℕ) → at + n ≤ len → big_number n (drop at (take len bytes)) ≡ number_at bytes at n
unfolding number_at
number_within bytes n at len fits = big_from-moved n 0 at (drop at (take len bytes)) bytes
    (λ k h. get_or-drop at (take len bytes) (0 + k) 0 ∙ get_or-take len bytes (at + (0 + k)) 0 (omega arith) ∙ ap (λ (i : ℕ). get_or bytes i 0) (omega arith))

-- a number in bytes that were read is the file's
pub number_read : (file : List ℕ) (at len i n : ℕ) → i + n ≤ len → number_at (read_bytes file at len) i n ≡ number_at file (at + i) n
unfolding number_at
number_read file at len i n fits = big_from-moved n i (at + i) (read_bytes file at len) file
    (λ k h. get_or-read_bytes file at len (i + k) (omega arith) ∙ ap (λ (j : ℕ). get_or file j 0) (omega arith))

-- words that were decoded from what was read are the file's
pub words_read : (file words : List ℕ) (at n : ℕ) → length words ≡ n
    → ((k : ℕ) → k < n → slice_index words k ≡ number_at (read_bytes file at (8 * n)) (8 * k) 8) → words ≡ words_at file at n
words_read file words at n len each =
    ext_get_or 0 words (words_at file at n) (len ∙ sym (length-words_at file at n))
    (λ k h. let below : k < n = omega arith in
    each k below ∙ number_read file at (8 * n) (8 * k) 8 (omega arith) ∙ sym (get_or-words_at file at n k below))
