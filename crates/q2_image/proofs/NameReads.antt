-- What is read for another backing name, also where nothing is told: the length of the ending extension's own data, and what stands in front of that extension.
use Rattle.std.proofs.Common.{◌≡◌, ℕ, ◌+◌, ◌-◌, ◌≤◌, inl, inr, Bool, true, false, ◌&&◌, cond, ltb, List, [], ◌∷◌, length, get_or, replicate, Option, Some, None, refl, sym, ap, subst, ◌∙◌, arith}
use Rattle.std.proofs.lemmas.Bool.{cases_lt}
use Rattle.std.proofs.lemmas.List.{get_or_past, length-replicate}
use Rattle.byteorder.specs.Endian.{big_from}
use Rattle.blk_base.specs.Content.{AreZeroPast, Write, after_writes, size_with, with_bytes}
use Rattle.blk_base.specs.Content as content
use Rattle.blk_base.specs.Files.{IfTold}
use Rattle.blk_base.specs.Writes.{size_after_writes, write_of}
use Rattle.blk_base.proofs.Contents as contents
use Rattle.q2_format.specs.Bytes.{number_at, place_bytes}
use Rattle.q2_format.specs.Renamed.{new_name_offset, next_extension}
use Rattle.q2_format.specs.declared.header.Header.{Header}
use Rattle.q2_format.proofs.ByPlace.{big_from-moved, get_or-bytes_at, length-bytes_at}
use Rattle.q2_format.proofs.Standing.{file_with, length-file_with, number_stands}
use Rattle.q2_image.specs.BackingName.{IsLengthRead, between_in, ending_length, ending_writes, reads_length}

-- The length.

number_told : (file buffer : List ℕ) (at : ℕ) → buffer ≡ content.bytes_at file at 4 → big_from 0 4 buffer ≡ number_at file at 4
unfolding number_at
number_told file buffer at is = big_from-moved 4 0 at buffer file (λ k below.
    let first : 0 + k ≡ k = omega arith in
    ap (λ (i : ℕ). get_or buffer i 0) first ∙ ap (λ (b : List ℕ). get_or b k 0) is ∙ contents.get_or-bytes_at file at 4 k below)

number_read : (size at : ℕ) (buffer : List ℕ) → AreZeroPast size at buffer → big_from 0 4 buffer ≡ number_at (file_with size at buffer) at 4
unfolding number_at
number_read size at buffer past =
    let first : at + 0 ≡ at = omega arith in
    number_stands size at buffer past 0 4 ∙ ap (λ (k : ℕ). number_at (file_with size at buffer) k 4) first

-- where it has no say any is as good
any_length : (h : Header) (name : Option (List ℕ)) (n m : ℕ) → reads_length h name ≡ false → ending_writes h name n ≡ ending_writes h name m
any_length h None n m none = refl
any_length h (Some name) n m none = by_test h.ended none
  where
    by_test : (t : Bool) → (t && true) ≡ false
        → cond (t && ltb (new_name_offset h) (h.ext_end + n)) (write_of (h.ext_end - 4) (replicate 4 0) ∷ []) []
        ≡ cond (t && ltb (new_name_offset h) (h.ext_end + m)) (write_of (h.ext_end - 4) (replicate 4 0) ∷ []) []
    by_test false test = refl
    by_test true test = absurd (cc test)

-- that of what is told, or of another file that is as long
length_of : (told : Option (List ℕ)) (size : ℕ) (h : Header) (name : Option (List ℕ)) (n : ℕ) (other : List ℕ) → ((file : List ℕ) → told ≡ Some file → size ≡ length file)
    → ((file : List ℕ) → told ≡ Some file → ending_writes h name n ≡ ending_writes h name (ending_length file h))
    → length other ≡ size → ending_writes h name n ≡ ending_writes h name (ending_length other h) → IsLengthRead told size h name n
length_of None size h name n other sized is whole spare = record { file = other; whole = whole; same = tt; is = spare }
length_of (Some file) size h name n other sized is whole spare = record { file = file; whole = sym (sized file refl); same = refl; is = is file refl }

module _ (told : Option (List ℕ)) (size : ℕ) (h : Header) (name : Option (List ℕ)) (n : ℕ) where
  pub length_read : (buffer : List ℕ) → ((file : List ℕ) → told ≡ Some file → size ≡ length file) → n ≡ big_from 0 4 buffer
      → ((file : List ℕ) → told ≡ Some file → buffer ≡ content.bytes_at file (h.ext_end - 4) 4) → AreZeroPast size (h.ext_end - 4) buffer → IsLengthRead told size h name n
  length_read buffer sized is read past =
      let at : ℕ = h.ext_end - 4 in
      length_of told size h name n (file_with size at buffer) sized
      (λ file was. ap (ending_writes h name) (is ∙ number_told file buffer at (read file was)))
      (length-file_with size at buffer) (ap (ending_writes h name) (is ∙ number_read size at buffer past))

  pub length_unread : ((file : List ℕ) → told ≡ Some file → size ≡ length file) → reads_length h name ≡ false → IsLengthRead told size h name n
  length_unread sized none =
      length_of told size h name n (replicate size 0) sized (λ file was. any_length h name n (ending_length file h) none)
      (length-replicate {A = ℕ} size 0) (any_length h name n (ending_length (replicate size 0) h) none)

  -- that of what is told
  pub length_told : IsLengthRead told size h name n → (file : List ℕ) → told ≡ Some file → ending_writes h name n ≡ ending_writes h name (ending_length file h)
  length_told read file was =
      let I : Option (List ℕ) → Type 0 = λ o. IfTold o (λ bytes. read.file ≡ bytes) in
      let same : read.file ≡ file = subst I was read.same in
      read.is ∙ ap (λ (bytes : List ℕ). ending_writes h name (ending_length bytes h)) same

-- What stands in front of it.

abbrev pub what_is_told : Option (List ℕ) → List ℕ
what_is_told None = []
what_is_told (Some file) = file

told_within : (told : Option (List ℕ)) (size : ℕ) → ((file : List ℕ) → told ≡ Some file → size ≡ length file) → length (what_is_told told) ≤ size
told_within None size sized = omega arith
told_within (Some file) size sized = let long = sized file refl in omega (arith, long)

size_with-within : (short long offset : ℕ) (bytes : List ℕ) → short ≤ long → size_with short offset bytes ≤ size_with long offset bytes
size_with-within short long offset [] within = within
size_with-within short long offset (byte ∷ bytes) within = omega (arith, within)

after_within : (file : List ℕ) (size : ℕ) (ws : List Write) → length file ≤ size → length (after_writes file ws) ≤ size_after_writes size ws
after_within file size [] within = within
after_within file size (w ∷ ws) within =
    let long = contents.length-with_bytes file w.offset w.bytes in
    let more = size_with-within (length file) size w.offset w.bytes within in
    after_within (with_bytes file w.offset w.bytes) (size_with size w.offset w.bytes) ws (omega (arith, long, more))

zero_past : (file : List ℕ) (size at n : ℕ) → length file ≤ size → AreZeroPast size at (place_bytes file at n)
zero_past file size at n within k above = elim (cases_lt k n) [
  | inl below ↦ get_or-bytes_at file at n k below ∙ get_or_past file (at + k) 0 (omega (arith, within, above))
  | inr beyond ↦ get_or_past (place_bytes file at n) k 0 (omega (arith, beyond, length-bytes_at file at n))
]

-- in what is told, behind these writes
pub between_past : (told : Option (List ℕ)) (size : ℕ) (ws : List Write) (h : Header) → ((file : List ℕ) → told ≡ Some file → size ≡ length file)
    → AreZeroPast (size_after_writes size ws) 20 (between_in (after_writes (what_is_told told) ws) h)
between_past told size ws h sized =
    zero_past (after_writes (what_is_told told) ws) (size_after_writes size ws) 20 (next_extension h - 20) (after_within (what_is_told told) size ws (told_within told size sized))
