-- What writes to a device leave in the file that it tells.
use Rattle.std.proofs.Common.{◌≡◌, ◌⊎◌, ℕ, ◌+◌, ◌*◌, ◌^◌, ◌<◌, ◌≤◌, inl, inr, List, length, get_or, slice_index, Option, None, Some, refl, sym, ap, ◌∙◌, subst, arith}
use Rattle.std.specs.Option.{option_map}
use Rattle.std.proofs.lemmas.Bool.{cases_order}
use Rattle.std.proofs.lemmas.List.{ext_get_or}
use Rattle.byteorder.specs.Endian.{big_bytes}
use Rattle.byteorder.specs.Numbers.{length-bytes_high_first}
use Rattle.blk_base.specs.Content.{with_bytes}
use Rattle.blk_base.proofs.Contents.{get_or-with_bytes_inside, get_or-with_bytes_outside}
use Rattle.q2_format.specs.Bytes.{number_at, words_at, IsWritten}
use Rattle.q2_format.proofs.ByPlace.{big_from-moved, get_or-words_at, length-words_at, number_at-before, number_at-behind, number_at-zeros}
use Rattle.q2_format.proofs.Frames.{written_number}
use Rattle.q2_tables.specs.Linking.{HasOneEntry, TableAfter}

pub is_written : (old : List ℕ) (at : ℕ) (bytes : List ℕ) → IsWritten old (with_bytes old at bytes) at bytes
is_written old at bytes = record {
  inside = λ i below. get_or-with_bytes_inside old at bytes i below;
  outside = λ i side. get_or-with_bytes_outside old at bytes i side;
}

-- the file behind a write
pub told_after : (old new : Option (List ℕ)) (file xs : List ℕ) (at : ℕ) → old ≡ Some file → new ≡ option_map (λ b. with_bytes b at xs) old → new ≡ Some (with_bytes file at xs)
told_after old new file xs at told is = is ∙ ap (option_map (λ b. with_bytes b at xs)) told

nearer : (i at n m : ℕ) → m ≤ n → (i < at) ⊎ (at + n ≤ i) → (i < at) ⊎ (at + m ≤ i)
nearer i at n m few (inl before) = inl before
nearer i at n m few (inr behind) = inr (omega arith)

pub table_after : (old new : Option (List ℕ)) (file xs : List ℕ) (at n : ℕ) → old ≡ Some file → new ≡ option_map (λ b. with_bytes b at xs) old → length xs ≤ n
    → TableAfter file new at n
table_after old new file xs at n told is few = record {
  file = with_bytes file at xs;
  is = told_after old new file xs at told is;
  outside = λ i side. get_or-with_bytes_outside file at xs i (nearer i at n (length xs) few side);
}

-- and the file before it
pub told_before : (old : Option (List ℕ)) (file xs : List ℕ) (at : ℕ) → option_map (λ b. with_bytes b at xs) old ≡ Some file → (b : List ℕ) × (old ≡ Some b) × (file ≡ with_bytes b at xs)
told_before None file xs at is = absurd (cc)
told_before (Some b) file xs at is = (b, refl, cc)

assoc : (a b i : ℕ) → a + b + i ≡ a + (0 + b + i)
assoc a b i = omega arith

-- a table in a buffer is that table in the file
moved_entry : (file buffer : List ℕ) (at e column word : ℕ) → IsWritten file (with_bytes file at buffer) at buffer → 8 * e ≤ length buffer → column < e
    → HasOneEntry buffer 0 e column word → HasOneEntry (with_bytes file at buffer) at e column word
unfolding number_at
moved_entry file buffer at e column word written fits in_table entry =
    let new : List ℕ = with_bytes file at buffer in
    let len_new = length-words_at new at e in
    let len_buffer = length-words_at buffer 0 e in
    let same : words_at new at e ≡ words_at buffer 0 e = ext_get_or 0 (words_at new at e) (words_at buffer 0 e) (len_new ∙ sym len_buffer)
    (λ k below. let in_e : k < e = omega (arith, len_new) in
    get_or-words_at new at e k in_e
    ∙ big_from-moved 8 (at + 8 * k) (0 + 8 * k) new buffer (λ i low.
    ap (λ (j : ℕ). get_or new j 0) (assoc at (8 * k) i) ∙ written.inside (0 + 8 * k + i) (omega arith))
    ∙ sym (get_or-words_at buffer 0 e k in_e)) in
    record {
      here = ap (λ (l : List ℕ). get_or l column 0) same ∙ entry.here;
      beside = λ q below other. ap (λ (l : List ℕ). get_or l q 0) same ∙ entry.beside q below other;
    }

pub entry_after : (old new : Option (List ℕ)) (file buffer : List ℕ) (at e column word : ℕ) → new ≡ option_map (λ b. with_bytes b at buffer) old → new ≡ Some file
    → 8 * e ≤ length buffer → column < e → HasOneEntry buffer 0 e column word → HasOneEntry file at e column word
entry_after old new file buffer at e column word is told fits in_table entry =
    let before = told_before old file buffer at (sym is ∙ told) in
    subst (λ (l : List ℕ). HasOneEntry l at e column word) (sym before.2)
    (moved_entry before.0 buffer at e column word (is_written before.0 at buffer) fits in_table entry)

-- one entry among zeros
pub one_entry : (zeros_there new : List ℕ) (e column word : ℕ) → ((i : ℕ) → slice_index zeros_there i ≡ 0) → IsWritten zeros_there new (8 * column) (big_bytes 8 word)
    → word < 256 ^ 8 → column < e → HasOneEntry new 0 e column word
one_entry zeros_there new e column word zero written fits in_table =
    let eight = length-bytes_high_first 8 word in
    record {
      here = get_or-words_at new 0 e column in_table ∙ ap (λ (k : ℕ). number_at new k 8) (omega arith) ∙ written_number zeros_there new (8 * column) 8 word written fits;
      beside = λ q below other.
          let clean : number_at zeros_there (0 + 8 * q) 8 ≡ 0 = number_at-zeros zeros_there (0 + 8 * q) 8 (λ i low high. zero i) in
          get_or-words_at new 0 e q below ∙ elim (cases_order q column) [
            | inl same ↦ absurd (other same)
            | inr (inl before) ↦ number_at-before zeros_there new (8 * column) (big_bytes 8 word) written (0 + 8 * q) 8 (omega arith) ∙ clean
            | inr (inr behind) ↦ number_at-behind zeros_there new (8 * column) (big_bytes 8 word) written (0 + 8 * q) 8 (omega (arith, eight)) ∙ clean
          ];
    }
