-- What is answered of the words of a refcount table, by what was read of it.
use Rattle.std.proofs.Common.{◌≡◌, ℕ, List, replicate, length, Option, Some, Err, Ok, refl}
use Rattle.std.proofs.lemmas.List.{length-replicate}
use Rattle.blk_base.specs.Files.{WasRead}
use Rattle.blk_base.proofs.Readings.{read_as, was_read}
use Rattle.q2_format.specs.Bytes.{CanStandAt}
use Rattle.q2_format.specs.Tables.{refcount_table}
use Rattle.q2_format.specs.declared.header.Header.{Header}
use Rattle.q2_format.proofs.ByPlace.{length-words_at}
use Rattle.q2_format.proofs.Standing.{file_stands, zeros_stand}
use Rattle.q2_refs.specs.Loading.{AnswersWords, IsRefsReadStop, RefusedBy, refcounts_refusal, table_entries}
use Rattle.q2_refs.specs.declared.stop.RefsStop.{RefsStop}
use Rattle.q2_refs.specs.declared.stop.RefsStop.TheVariants.{Offset, Reserved, Io, NoMemory}

length-table : (file : List ℕ) (h : Header) → length (refcount_table file h) ≡ table_entries h
unfolding refcount_table
length-table file h = length-words_at file h.ref_offset (table_entries h)

table_stands : (file : List ℕ) (h : Header) (len : ℕ) → len ≡ length file → CanStandAt len h.ref_offset (refcount_table file h)
unfolding refcount_table
table_stands file h len size = file_stands file len h.ref_offset (table_entries h) size

module _ {A : Type 0} (content : Option (List ℕ)) (h : Header) (len : ℕ) (words_of : A → List ℕ) where
  -- a refusal that all words have
  pub refused_any : (e : RefsStop) → ((file : List ℕ) → content ≡ Some file → len ≡ length file)
      → ((words : List ℕ) → RefusedBy {A = A} (Err e) (refcounts_refusal h len words)) → WasRead content (λ file. refcount_table file h) (AnswersWords h len words_of (Err e))
  refused_any e size all =
      was_read content (λ file. refcount_table file h) (AnswersWords h len words_of (Err e)) (replicate (table_entries h) 0)
      (λ file told. record { entries = length-table file h; stands = table_stands file h len (size file told); refused = all (refcount_table file h); kept = tt })
      (record { entries = length-replicate (table_entries h) 0; stands = zeros_stand len h.ref_offset (table_entries h); refused = all (replicate (table_entries h) 0); kept = tt })

  -- one of what was read
  pub refused_read : (words : List ℕ) (e : RefsStop) → length words ≡ table_entries h → CanStandAt len h.ref_offset words
      → ((file : List ℕ) → content ≡ Some file → words ≡ refcount_table file h) → RefusedBy {A = A} (Err e) (refcounts_refusal h len words)
      → WasRead content (λ file. refcount_table file h) (AnswersWords h len words_of (Err e))
  refused_read words e entries stands told is =
      read_as content (λ file. refcount_table file h) (AnswersWords h len words_of (Err e)) words told (record { entries = entries; stands = stands; refused = is; kept = tt })

  -- and none
  pub accepted_read : (a : A) → length (words_of a) ≡ table_entries h → CanStandAt len h.ref_offset (words_of a)
      → ((file : List ℕ) → content ≡ Some file → words_of a ≡ refcount_table file h) → RefusedBy (Ok a) (refcounts_refusal h len (words_of a))
      → WasRead content (λ file. refcount_table file h) (AnswersWords h len words_of (Ok a))
  accepted_read a entries stands told is =
      read_as content (λ file. refcount_table file h) (AnswersWords h len words_of (Ok a)) (words_of a) told (record { entries = entries; stands = stands; refused = is; kept = refl })

-- a call that only reads refuses nothing
pub unread_refuses : (A : Type 0) (e : RefsStop) → IsRefsReadStop e → (h : Header) (len : ℕ) (words : List ℕ) → RefusedBy {A = A} (Err e) (refcounts_refusal h len words)
unread_refuses A (Offset at) is h len words = absurd is
unread_refuses A (Reserved index) is h len words = absurd is
unread_refuses A (Io count) is h len words = tt
unread_refuses A NoMemory is h len words = tt
