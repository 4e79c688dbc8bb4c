-- A write into a cluster of an image that holds none of its tables: the image stays what it is, whatever was written.
use Rattle.std.proofs.Common.{◌≡◌, ℕ, ◌/◌, ◌<◌, ◌≤◌, List, length, get_or, sym, ap, subst, ◌∙◌, arith}
use Rattle.q2_format.specs.Bytes.{ReadsAlike, IsWritten}
use Rattle.q2_format.specs.Header.{header_of}
use Rattle.q2_format.specs.References.{uses}
use Rattle.q2_format.specs.Sizes.{cluster_size}
use Rattle.q2_format.specs.Sound.{IsSound}
use Rattle.q2_format.specs.Tables.{Tree, active_tree, refcount_table, refcount_of}
use Rattle.q2_format.specs.declared.header.Header.{Header}
use Rattle.q2_format.proofs.Consistent.{sound_tables, sound_is_consistent}
use Rattle.q2_refs.specs.Kept.{IsCountsOf}
use Rattle.q2_refs.proofs.Ranges.{in_block}
use Rattle.q2_refs.proofs.SoundAfter.{StaysSound, sound_after}
use Rattle.q2_refs.proofs.Steps.{sound_shape, cluster_is, header_kept, uses_alike, block_longer, not_a_block}
use Rattle.q2_refs.proofs.Uses.{IsApart, table_run, block_uses}
use Rattle.q2_refs.proofs.Writes.{IsWithin, table_stays, tree_stays, header_stays, count_stays}
use Rattle.q2_tables.specs.Kept.{IsTreeOf}
use Rattle.q2_image.specs.Image.{Known, IsImageOf, cluster_size_in}
use Rattle.q2_image.specs.Writing.{IsSpare}

-- a cluster holds no part of the header or of a table
pub record HoldsNoTable (file : List ℕ) (cluster : ℕ) : Type 0 where
  pub apart : IsApart file (header_of file) cluster
  pub table : table_run (header_of file) cluster ≡ 0
  pub blocks : block_uses file (header_of file) cluster ≡ 0

-- a file in which the header and all tables are as they were
pub record KeepsTables (old new : List ℕ) : Type 0 where
  pub header : header_of new ≡ header_of old
  pub first : ReadsAlike old new 0 65536
  pub sound : IsSound new
  pub tree : active_tree new (header_of old) ≡ active_tree old (header_of old)
  pub table : refcount_table new (header_of old) ≡ refcount_table old (header_of old)
  pub counts : (k : ℕ) → refcount_of new (header_of old) k ≡ refcount_of old (header_of old) k

module _ (old new : List ℕ) (k at : ℕ) (bytes : List ℕ) (sound : IsSound old) (free : HoldsNoTable old k)
    (written : IsWritten old new at bytes) (within : IsWithin k (cluster_size (header_of old).cluster_bits) at bytes)
    (grows : length old ≤ length new) (small : length new ≤ 549755813888) where
  abbrev h : Header
  h = header_of old

  some : 0 < cluster_size h.cluster_bits
  some = omega (arith, cluster_is h (sound_shape old sound))

  same_table : refcount_table new h ≡ refcount_table old h
  same_table = table_stays old new h (length old) k at bytes some written within (sound_tables old sound) free.table

  same_tree : active_tree new h ≡ active_tree old h
  same_tree = tree_stays old new h (length old) k at bytes some written within (sound_tables old sound) free.apart

  same_first : ReadsAlike old new 0 65536
  same_first = let c = cluster_is h (sound_shape old sound) in rw (← c) (header_stays old new h (length old) k at bytes some written within (sound_tables old sound) free.apart.header)

  same_count : (cluster : ℕ) → refcount_of new h cluster ≡ refcount_of old h cluster
  same_count cluster =
      count_stays old new h (length old) k at bytes some written within (sound_tables old sound) (sound_shape old sound) cluster
      (ap (λ (table : List ℕ). get_or table (cluster / in_block h) 0) same_table)
      (not_a_block old h k free.apart.header free.blocks (cluster / in_block h))

  same_uses : (j : ℕ) → uses new h j ≡ uses old h j
  same_uses j = uses_alike old new h j same_table same_tree

  stays : StaysSound old new h
  stays =
      let nothing = sound_tables old sound in
      let consistent = sound_is_consistent old sound in
      record {
        header = header_kept old new sound same_first;
        first = same_first;
        grows = grows;
        small = small;
        tree = same_tree;
        blocks = rw same_table (block_longer (cluster_size h.cluster_bits) (length old) (length new) (refcount_table old h) grows nothing.blocks);
        bits = rw same_table nothing.refcount_table_bits;
        once = λ j. let e = same_uses j in omega (arith, e, consistent.once j);
        counted = λ j. let e = same_uses j in let n = same_count j in omega (arith, e, n, consistent.counted j);
      }

  pub tables_kept : KeepsTables old new
  tables_kept = record {
    header = stays.header;
    first = same_first;
    sound = sound_after old new sound stays;
    tree = same_tree;
    table = same_table;
    counts = same_count;
  }

-- What is known of the one file is known of the other.
module _ (old new : List ℕ) (keeps : KeepsTables old new) where
  pub uses_kept : (k : ℕ) → uses new (header_of new) k ≡ uses old (header_of old) k
  uses_kept k = ap (λ (h : Header). uses new h k) keeps.header ∙ uses_alike old new (header_of old) k keeps.table keeps.tree

  pub counts_kept : (k : ℕ) → refcount_of new (header_of new) k ≡ refcount_of old (header_of old) k
  counts_kept k = ap (λ (h : Header). refcount_of new h k) keeps.header ∙ keeps.counts k

  pub spare_kept : (k : ℕ) → IsSpare old k → IsSpare new k
  spare_kept k spare = record {
    unnamed = uses_kept k ∙ spare.unnamed;
    counted = λ none. spare.counted (sym (counts_kept k) ∙ none);
  }

  -- with the header of the old file
  counts_there : (image : Known) → IsCountsOf old (header_of old) image.refs → IsCountsOf new (header_of old) image.refs
  counts_there image counts = record {
    shape = counts.shape;
    table = counts.table ∙ sym keeps.table;
    counts = λ k below. counts.counts k below ∙ sym (keeps.counts k);
  }

  pub image_kept : (image : Known) → IsImageOf old image → IsImageOf new image
  image_kept image is =
      let P : Header → Type 0 = λ h. IsCountsOf old h image.refs in
      let Q : Header → Type 0 = λ h. IsCountsOf new h image.refs in
      let T : Tree → Type 0 = λ tree. IsTreeOf (cluster_size_in image) image.tables tree in
      let same_tree : active_tree new image.header ≡ active_tree old image.header =
      ap (active_tree new) (sym is.header) ∙ keeps.tree ∙ ap (active_tree old) is.header in
      record {
        sound = keeps.sound;
        header = keeps.header ∙ is.header;
        tables = subst T (sym same_tree) is.tables;
        refs = subst Q is.header (counts_there image (subst P (sym is.header) is.refs));
      }
