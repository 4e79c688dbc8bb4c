-- After the write of the autoclear field, an open image is that of its file but for the field, and no byte of its disk changed.
use Rattle.std.proofs.Common.{◌≡◌, ℕ, ◌<◌, ◌≤◌, inl, inr, List, length, replicate, take, Option, None, Some, option_map, refl, sym, ap, subst, ◌∙◌, arith}
use Rattle.blk_base.specs.Content.{with_bytes}
use Rattle.blk_base.specs.Counts.{IsFailedWrite}
use Rattle.blk_base.specs.declared.device.Stop.{Stop}
use Rattle.blk_base.specs.declared.device.Stop.TheVariants.{Failed, NoSpace}
use Rattle.blk_base.specs.declared.device.WriteStop.{WriteStop}
use Rattle.blk_base.proofs.Contents.{length-with_bytes_within}
use Rattle.q2_format.specs.Bytes.{IsWritten}
use Rattle.q2_format.specs.Sound.{IsSound}
use Rattle.q2_format.specs.Tables.{Tree, active_tree, refcount_table, refcount_of}
use Rattle.q2_format.specs.declared.header.Header.{Header}
use Rattle.q2_format.proofs.Autoclear.{without_autoclear, cleared_header_of, cleared_table, cleared_tree, cleared_count, cleared_sound, cleared_byte}
use Rattle.q2_format.proofs.Consistent.{sound_header}
use Rattle.q2_format.proofs.Limits.{within_limits}
use Rattle.q2_refs.proofs.Placing.{told_before, written_with}
use Rattle.q2_refs.specs.Kept.{IsCountsOf}
use Rattle.q2_tables.specs.Kept.{IsTreeOf}
use Rattle.q2_image.specs.Image.{Known, IsImageOf, cluster_size_in}
use Rattle.q2_image.specs.Writing.{IsSameDisk, autocleared}

-- the file with the field 0
abbrev pub cleared : List ℕ → List ℕ
cleared file = with_bytes file 88 (replicate 8 0)

-- a sound file ends behind the field
same_length : (file : List ℕ) → IsSound file → length (cleared file) ≡ length file
same_length file sound =
    let limits = within_limits file (length file) (sound_header file sound) in
    length-with_bytes_within file 88 (replicate 8 0) (omega (arith, limits.header_whole, limits.header_in_file))

field_written : (file : List ℕ) → IsWritten file (cleared file) 88 (replicate 8 0)
field_written file = written_with file 88 (replicate 8 0)

-- what is kept of the refcounts is as it was, over the header with and without the field
counts_stay : (old new : List ℕ) (image : Known) → refcount_table new image.header ≡ refcount_table old image.header
    → ((k : ℕ) → refcount_of new image.header k ≡ refcount_of old image.header k) → IsCountsOf old image.header image.refs
    → IsCountsOf new (autocleared image).header image.refs
unfolding refcount_table refcount_of
counts_stay old new image table count counts = record {
  shape = record { cluster_bits = counts.shape.cluster_bits; refcount_order = counts.shape.refcount_order; table_offset = counts.shape.table_offset };
  table = counts.table ∙ sym table;
  counts = λ k below. counts.counts k below ∙ sym (count k);
}

pub cleared_image : (file : List ℕ) (image : Known) → IsImageOf file image → IsImageOf (cleared file) (autocleared image)
cleared_image file image is =
    let new : List ℕ = cleared file in
    let written = field_written file in
    let T : Header → Type 0 = λ h. active_tree new h ≡ active_tree file h in
    let R : Header → Type 0 = λ h. refcount_table new h ≡ refcount_table file h in
    let C : Header → Type 0 = λ h. (k : ℕ) → refcount_of new h k ≡ refcount_of file h k in
    let tree : T image.header = subst T is.header (cleared_tree file new written is.sound) in
    let table : R image.header = subst R is.header (cleared_table file new written is.sound) in
    let count : C image.header = subst C is.header (cleared_count file new written is.sound) in
    let K : Tree → Type 0 = λ t. IsTreeOf (cluster_size_in image) image.tables t in
    record {
      sound = cleared_sound file new written is.sound (same_length file is.sound);
      header = cleared_header_of file new written is.sound ∙ ap without_autoclear is.header;
      tables = subst K (sym tree) is.tables;
      refs = counts_stay file new image table count is.refs;
    }

pub cleared_disk : (file : List ℕ) → IsSound file → IsSameDisk file (cleared file)
cleared_disk file sound =
    let written = field_written file in
    record {
      size = ap (λ (h : Header). h.size) (cleared_header_of file (cleared file) written sound);
      inside = λ backing i below inside. absurd (omega (arith, below));
      outside = λ backing place inside apart. cleared_byte file (cleared file) written sound backing place;
    }

-- The same of what a device tells before and after the write.
module _ (old new : Option (List ℕ)) (image : Known) (is : (file : List ℕ) → old ≡ Some file → IsImageOf file image) (write : new ≡ option_map cleared old) where
  pub told_image : (file : List ℕ) → new ≡ Some file → IsImageOf file (autocleared image)
  told_image file told =
      let was = told_before cleared old new file write told in
      let P : List ℕ → Type 0 = λ b. IsImageOf b (autocleared image) in
      subst P was.2 (cleared_image was.0 image (is was.0 was.1))

  pub told_disk : (before after : List ℕ) → old ≡ Some before → new ≡ Some after → IsSameDisk before after
  told_disk before after was told =
      let same : cleared before ≡ after = let now = rw was at write in cc in
      subst (IsSameDisk before) same (cleared_disk before (is before was).sound)

-- A write of the field that stopped: the field lies in one sector, so none of its bytes was written.

nothing_by_why : (why : Stop) (done capacity before now : ℕ) → (why ≡ NoSpace → (capacity < 96) × (done ≡ 0) × (now ≡ before))
    → (why ≡ Failed → (96 ≤ capacity) × IsFailedWrite 88 done 8 before now) → done ≡ 0
nothing_by_why NoSpace done capacity before now no_space failed = (no_space refl).1
nothing_by_why Failed done capacity before now no_space failed =
    let stopped = (failed refl).1 in
    elim stopped.sector [
      | inl none ↦ none
      | inr whole ↦ absurd (omega (arith, stopped.part, whole))
    ]

pub nothing_done : (stop : WriteStop) (capacity before now : ℕ) → (stop.why ≡ NoSpace → (capacity < 96) × (stop.done ≡ 0) × (now ≡ before))
    → (stop.why ≡ Failed → (96 ≤ capacity) × IsFailedWrite 88 stop.done 8 before now) → stop.done ≡ 0
nothing_done stop = nothing_by_why stop.why stop.done

pub untouched : (old new : Option (List ℕ)) (done : ℕ) → done ≡ 0 → new ≡ option_map (λ b. with_bytes b 88 (take done (replicate 8 0))) old → new ≡ old
untouched None new done none is = is
untouched (Some file) new done none is = rw none at is
