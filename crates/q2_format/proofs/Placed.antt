-- The parts of a created image are the same in a buffer and in the file that it was written to.
use Rattle.std.proofs.Common.{◌≡◌, ℕ, ◌+◌, ◌-◌, ◌*◌, ◌≤◌, List, Option, None, Some, length, slice_index, Bor, refl, sym, ap, ◌∙◌, subst, arith}
use Rattle.std.specs.Option.{ForSome, option_copied}
use Rattle.q2_format.specs.Bytes.{number_at, ReadsAlike, Holds}
use Rattle.q2_format.specs.Created.{creation_of, AreZeros, IsFormatExtension, HasCreatedExtensions, HasCreatedHeader, HasCreatedTable, HasCreatedCounts, IsNewName, IsNewFormat}
use Rattle.q2_format.proofs.ByPlace.{big_from-moved, number_at-within, bytes_at-within}
use Rattle.q2_format.proofs.Creating.{fields_alike, given_name_alike, one_table_cluster}

-- a number of the bytes that a file holds
pub number_held : (file bytes : List ℕ) (at i n : ℕ) → Holds file at bytes → i + n ≤ length bytes → number_at file (at + i) n ≡ number_at bytes (0 + i) n
unfolding number_at
number_held file bytes at i n held fits = big_from-moved n (at + i) (0 + i) file bytes
    (λ k low.
    let there : at + i + k ≡ at + (i + k) = omega arith in
    let here : 0 + i + k ≡ i + k = omega arith in
    ap (λ (p : ℕ). slice_index file p) there ∙ held.each (i + k) (omega arith) ∙ sym (ap (λ (p : ℕ). slice_index bytes p) here))

pub table_held : (size : ℕ) (name format : Option (List ℕ)) (file bytes : List ℕ) (at : ℕ) → size ≤ 274877906944 → length bytes ≡ 65536 → Holds file at bytes
    → HasCreatedTable (creation_of size name format) bytes 0 → HasCreatedTable (creation_of size name format) file at
table_held size name format file bytes at small whole held table = record {
  entry = λ k below. let one = one_table_cluster size name format small in
      number_held file bytes at (8 * k) 8 held (omega (arith, one)) ∙ table.entry k below;
}

pub counts_held : (size : ℕ) (name format : Option (List ℕ)) (file bytes : List ℕ) (at : ℕ) → length bytes ≡ 65536 → Holds file at bytes
    → HasCreatedCounts (creation_of size name format) bytes 0 → HasCreatedCounts (creation_of size name format) file at
counts_held size name format file bytes at whole held counts = record {
  count = λ k below. number_held file bytes at (k * 2) 2 held (omega arith) ∙ counts.count k below;
}

pub zeros_held : (file bytes : List ℕ) (at to : ℕ) → at + length bytes ≡ to → Holds file at bytes → ((i : ℕ) → slice_index bytes i ≡ 0) → AreZeros file at to
zeros_held file bytes at to ends held zeros i low high =
    let place : at + (i - at) ≡ i = omega arith in
    ap (λ (p : ℕ). slice_index file p) (sym place) ∙ held.each (i - at) (omega arith) ∙ zeros (i - at)

-- A part reads the same where its bytes do.

pub table_alike : (size : ℕ) (name format : Option (List ℕ)) (old file : List ℕ) (at : ℕ) → size ≤ 274877906944 → ReadsAlike old file at 65536
    → HasCreatedTable (creation_of size name format) old at → HasCreatedTable (creation_of size name format) file at
table_alike size name format old file at small alike table = record {
  entry = λ k below. let one = one_table_cluster size name format small in
      number_at-within old file at 65536 (at + 8 * k) 8 alike (omega arith) (omega (arith, one)) ∙ table.entry k below;
}

pub counts_alike : (size : ℕ) (name format : Option (List ℕ)) (old file : List ℕ) (at : ℕ) → ReadsAlike old file at 65536
    → HasCreatedCounts (creation_of size name format) old at → HasCreatedCounts (creation_of size name format) file at
counts_alike size name format old file at alike counts = record {
  count = λ k below. number_at-within old file at 65536 (at + k * 2) 2 alike (omega arith) (omega arith) ∙ counts.count k below;
}

format_alike : (format old file : List ℕ) → length format ≤ 8 → IsFormatExtension old format → ReadsAlike old file 112 32656 → IsFormatExtension file format
format_alike format old file short extension alike = record {
  kind = number_at-within old file 112 32656 112 4 alike (omega arith) (omega arith) ∙ extension.kind;
  length_field = number_at-within old file 112 32656 116 4 alike (omega arith) (omega arith) ∙ extension.length_field;
  text = bytes_at-within old file 112 32656 120 (length format) alike (omega arith) (omega arith) ∙ extension.text;
  padding = λ i low high. alike.same i (omega arith) (omega arith) ∙ extension.padding i low high;
}

extensions_alike : (size : ℕ) (name format : Option (List ℕ)) (old file : List ℕ) → ForSome format IsNewFormat → HasCreatedExtensions (creation_of size name format) old
    → ReadsAlike old file 112 32656 → HasCreatedExtensions (creation_of size name format) file
extensions_alike size name None old file fits extensions alike = record {
  format = extensions.format;
  ending = λ i low high. alike.same i low (omega arith) ∙ extensions.ending i low high;
}
extensions_alike size name (Some format) old file fits extensions alike = record {
  format = format_alike format old file (fits format refl).1 extensions.format alike;
  ending = λ i low high. alike.same i (omega arith) (omega arith) ∙ extensions.ending i low high;
}

-- what holds of a text that is given holds of its bytes
pub copied_fits : (P : List ℕ → Type 0) (text : Option (Bor (List ℕ))) → ForSome text (λ text. P text.now) → ForSome (option_copied text) P
copied_fits P None fits bytes is = absurd (cc)
copied_fits P (Some text) fits bytes is = let same : text.now ≡ bytes = cc in subst P same (fits text refl)

-- the header's cluster
pub header_alike : (size : ℕ) (name format : Option (Bor (List ℕ))) (old file : List ℕ) → ForSome name (λ name. IsNewName name.now) → ForSome format (λ format. IsNewFormat format.now)
    → HasCreatedHeader (creation_of size (option_copied name) (option_copied format)) old → ReadsAlike old file 0 65536
    → HasCreatedHeader (creation_of size (option_copied name) (option_copied format)) file
header_alike size name format old file name_fits format_fits header alike = record {
  fields = fields_alike (creation_of size (option_copied name) (option_copied format)) old file header.fields (record { same = λ i low high. alike.same i (omega arith) (omega arith) });
  extensions = extensions_alike size (option_copied name) (option_copied format) old file (copied_fits IsNewFormat format format_fits) header.extensions
      (record { same = λ i low high. alike.same i (omega arith) (omega arith) });
  name = given_name_alike size name (option_copied format) old file name_fits header.name (record { same = λ i low high. alike.same i (omega arith) (omega arith) });
}
