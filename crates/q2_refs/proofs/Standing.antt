-- Counts of blocks that a file of some length can have, and has where it is told.
use Rattle.std.proofs.Common.{◌≡◌, ◌≢◌, ℕ, ◌+◌, ◌*◌, ◌/◌, ◌%◌, ◌<◌, ◌≤◌, List, length, replicate, slice_index, get_or, Option, Some, None, subst, refl, sym, ap, ◌∙◌, arith, inl, inr}
use Rattle.std.proofs.Math.Nat.{div-add-mod, div-lt_iff_lt-mul, mod-lt, mul_comm}
use Rattle.std.proofs.lemmas.Bool.{cases_eq, cases_lt}
use Rattle.std.proofs.lemmas.List.{length-replicate}
use Rattle.std.proofs.lemmas.Nat.{mul-le, row_fits}
use Rattle.std.proofs.lemmas.Grind.{div_ceil_times}
use Rattle.std.specs.Int.{div_ceil}
use Rattle.blk_base.specs.Content.{AreZeroPast}
use Rattle.q2_format.specs.Bytes.{number_at}
use Rattle.q2_format.specs.Entry.{block_offset}
use Rattle.q2_format.proofs.Standing.{file_with, length-file_with, number_stands}
use Rattle.q2_format.specs.declared.header.Header.{Header}
use Rattle.blk_base.specs.Files.{IfTold}
use Rattle.q2_format.specs.Tables.{refcount_table, refcount_of}
use Rattle.q2_refs.specs.Kept.{AreAbsentZero, BlocksStand, StandsAsBlock}
use Rattle.q2_refs.specs.Loading.{AreCounts, HasShape}
use Rattle.q2_refs.proofs.Ranges.{block_at, in_block, refcount_of-absent, refcount_of-present, width_two}

module _ (told : Option (List ℕ)) (len : ℕ) where
  -- counts that were decoded from what was read
  pub block_stands : (offset w n from : ℕ) (bytes counts : List ℕ) → ((file : List ℕ) → told ≡ Some file → len ≡ length file) → AreZeroPast len offset bytes
      → ((file : List ℕ) → told ≡ Some file → (k : ℕ) → k < n → number_at bytes (k * w) w ≡ number_at file (offset + k * w) w)
      → ((k : ℕ) → k < n → from + k < length counts → slice_index counts (from + k) ≡ number_at bytes (k * w) w) → StandsAsBlock told len offset w n from counts
  block_stands offset w n from bytes counts size past same each = by told refl
    where
      by : (t : Option (List ℕ)) → t ≡ told → StandsAsBlock t len offset w n from counts
      by None none = record {
        file = file_with len offset bytes;
        is = tt;
        size = length-file_with len offset bytes;
        are = λ k below within. each k below within ∙ number_stands len offset bytes past (k * w) w;
      }
      by (Some file) some = record {
        file = file;
        is = refl;
        size = sym (size file (sym some));
        are = λ k below within. each k below within ∙ same file (sym some) k below;
      }

  -- a block of which no count is kept
  none_stands : (offset w n from : ℕ) (counts : List ℕ) → ((file : List ℕ) → told ≡ Some file → len ≡ length file) → length counts ≤ from → StandsAsBlock told len offset w n from counts
  none_stands offset w n from counts size past = by told refl
    where
      none : (file : List ℕ) (k : ℕ) → k < n → from + k < length counts → slice_index counts (from + k) ≡ number_at file (offset + k * w) w
      none file k below within = absurd (omega (arith, past, within))

      by : (t : Option (List ℕ)) → t ≡ told → StandsAsBlock t len offset w n from counts
      by None _ = record { file = replicate len 0; is = tt; size = length-replicate len 0; are = none (replicate len 0) }
      by (Some file) some = record { file = file; is = refl; size = sym (size file (sym some)); are = none file }

  -- the counts of a block stay where no count below its end changes
  kept_stands : (offset w n from end : ℕ) (old new : List ℕ) → length new ≡ length old → from + n ≤ end
      → ((k : ℕ) → k < end → slice_index new k ≡ slice_index old k) → StandsAsBlock told len offset w n from old → StandsAsBlock told len offset w n from new
  kept_stands offset w n from end old new same ends before stands = record {
    file = stands.file;
    is = stands.is;
    size = stands.size;
    are = λ k below within. before (from + k) (omega (arith, below, ends)) ∙ stands.are k below (omega (arith, same, within));
  }

  -- one block further
  pub blocks_further : (w n i : ℕ) (table old new : List ℕ) → BlocksStand told len w n table old i → length new ≡ length old
      → ((k : ℕ) → k < i * n → slice_index new k ≡ slice_index old k)
      → (block_offset (slice_index table i) ≢ 0 → StandsAsBlock told len (block_offset (slice_index table i)) w n (i * n) new) → BlocksStand told len w n table new (i + 1)
  blocks_further w n i table old new had same before here = λ j below there. elim (cases_lt j i) [
    | inl earlier ↦ kept_stands (block_offset (slice_index table j)) w n (j * n) (i * n) old new same (row_fits j n i n earlier (omega arith)) before (had j earlier there)
    | inr last ↦ subst (λ (m : ℕ). block_offset (slice_index table m) ≢ 0 → StandsAsBlock told len (block_offset (slice_index table m)) w n (m * n) new) (omega (arith, below, last)) here there
  ]

  -- the blocks of all kept counts are all blocks
  pub blocks_all : (w n i m : ℕ) (table counts : List ℕ) → ((file : List ℕ) → told ≡ Some file → len ≡ length file) → BlocksStand told len w n table counts i
      → length counts ≤ i * n → BlocksStand told len w n table counts m
  blocks_all w n i m table counts size had all = λ j below there. elim (cases_lt j i) [
    | inl earlier ↦ had j earlier there
    | inr later ↦ none_stands (block_offset (slice_index table j)) w n (j * n) counts size (omega (arith, all, mul-le i n j n later (omega arith)))
  ]

  -- where the words of the table are a told file's, what stands so is what that file has
  pub counts_are : (h : Header) (table counts file : List ℕ) → told ≡ Some file → HasShape h → table ≡ refcount_table file h → length counts ≤ length table * in_block h
      → AreAbsentZero (in_block h) table counts (length counts) → BlocksStand told len 2 (in_block h) table counts (length table) → AreCounts file h counts 0 (length counts)
  counts_are h table counts file is shape same reach absent stand k low below within =
      let n : ℕ = in_block h in
      let some : 0 < n = rw (shape.cluster_bits, shape.refcount_order) (omega arith) in
      let i : ℕ = k / n in
      let j : ℕ = k % n in
      let place : i * n + j ≡ k = omega (arith, div-add-mod k n, mul_comm i n) in
      let column : j < n = mod-lt k some in
      let row : i < length table = (div-lt_iff_lt-mul some).1 (omega (arith, within, reach)) in
      let named : block_offset (slice_index table i) ≡ block_at file h i = ap (λ (words : List ℕ). block_offset (get_or words i 0)) same in
      elim (cases_eq (block_offset (slice_index table i)) 0) [
        | inl none ↦ absent k within none ∙ sym (refcount_of-absent file h i j column (sym named ∙ none)) ∙ ap (refcount_of file h) place
        | inr there ↦
            let stands = stand i row there in
            let I : Option (List ℕ) → Type 0 = λ o. IfTold o (λ bytes. stands.file ≡ bytes) in
            let read : stands.file ≡ file = subst I is stands.is in
            let moved : number_at stands.file (block_offset (slice_index table i) + j * 2) 2 ≡ number_at file (block_at file h i + j * 2) 2 = rw (read, named) refl in
            ap (slice_index counts) (sym place) ∙ stands.are j column (rw place within)
            ∙ moved ∙ ap (λ (w : ℕ). number_at file (block_at file h i + j * w) w) (sym (width_two h shape))
            ∙ sym (refcount_of-present file h i j column (λ none. there (named ∙ none)))
            ∙ ap (refcount_of file h) place
      ]

-- so many blocks have all kept counts
pub all_within : (h : Header) (len i : ℕ) → HasShape h → div_ceil len (in_block h) ≤ i → len ≤ i * in_block h
all_within h len i shape ends =
    let some : 0 < in_block h = rw (shape.cluster_bits, shape.refcount_order) (omega arith) in
    omega (arith, (div_ceil_times len (in_block h) some).0, mul-le (div_ceil len (in_block h)) (in_block h) i (in_block h) ends (omega arith))
