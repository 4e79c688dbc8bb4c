-- An image whose L1 table is zeros maps nothing, and so reads as its backing disk.
use Rattle.std.proofs.Common.{◌≡◌, ℕ, ◌+◌, ◌*◌, ◌/◌, ◌≤◌, max, inl, inr, List, [], length, map, get_or, slice_index, refl, ap, ◌∙◌, arith}
use Rattle.std.specs.List.{range_with_len}
use Rattle.std.proofs.lemmas.Bool.{cases_lt}
use Rattle.std.proofs.lemmas.Grind.{div_ceil_times}
use Rattle.std.proofs.lemmas.List.{get_or-map, get_or_past, length-map}
use Rattle.std.proofs.lemmas.List.FromFn.{get_or-map-range_with_len, length-map-range_with_len}
use Rattle.std.proofs.Math.Nat.{mul-le-mul_right, le-max_right, one-le-pow}
use Rattle.q2_format.specs.Bytes.{words_at, place_bytes}
use Rattle.q2_format.specs.Sizes.{cluster_size, clusters_for, entries_in_cluster}
use Rattle.q2_format.specs.Entry.{l2_entry}
use Rattle.q2_format.specs.Header.{header_of}
use Rattle.q2_format.specs.Tables.{tree_at, active_tree, l2_table, l2_word_of}
use Rattle.q2_format.specs.Contents.{guest_byte, image_disk}
use Rattle.q2_format.specs.Created.{Creation, created_cluster_size, created_l1_size, created_l1_offset, created_table_clusters, created_length, AreZeros, HasCreatedFields, IsCreated}
use Rattle.q2_format.specs.declared.entries.L2Entry.TheVariants.{Unallocated}
use Rattle.q2_format.proofs.ByPlace.{get_or-words_at, length-words_at, number_at-zeros, bytes_from_places}

-- an L1 entry of 0 names no table
l2_table-zero : (file : List ℕ) (c : ℕ) → l2_table file c 0 ≡ []
unfolding l2_table
l2_table-zero file c = refl

-- words among bytes that are 0
pub zero_word : (file : List ℕ) (at n k : ℕ) → AreZeros file at (at + 8 * n) → get_or (words_at file at n) k 0 ≡ 0
zero_word file at n k zeros_there = elim (cases_lt k n) [
  | inl h ↦ get_or-words_at file at n k h ∙ number_at-zeros file (at + 8 * k) 8 (λ i low high. zeros_there i (omega arith) (omega arith))
  | inr h ↦ get_or_past (words_at file at n) k 0 (omega (arith, length-words_at file at n))
]

-- no L2 table is named
pub no_table : (file : List ℕ) (c at n k : ℕ) → AreZeros file at (at + 8 * n)
    → get_or (map (l2_table file c) (words_at file at n)) k [] ≡ []
no_table file c at n k zeros_there = elim (cases_lt k n) [
  | inl h ↦
      let word = zero_word file at n k zeros_there in
      get_or-map (l2_table file c) (words_at file at n) k 0 [] (omega (arith, length-words_at file at n))
      ∙ ap (l2_table file c) word ∙ l2_table-zero file c
  | inr h ↦ get_or_past (map (l2_table file c) (words_at file at n)) k [] (omega (arith, length-map (words_at file at n) (l2_table file c), length-words_at file at n))
]

pub l2_word_of-unmapped : (file : List ℕ) (c at n cluster : ℕ) → AreZeros file at (at + 8 * n) → l2_word_of (tree_at file c at n) c cluster ≡ 0
unfolding l2_word_of tree_at
l2_word_of-unmapped file c at n cluster zeros_there =
    let none = no_table file c at n (cluster / entries_in_cluster c) zeros_there in
    rw none refl

l2_entry-zero : l2_entry 0 ≡ Unallocated
unfolding l2_entry
l2_entry-zero = refl

-- the clusters of a table have room for its bytes
table_fits : (t k n c : ℕ) → n ≤ k * c → (2 + t) * c + n ≤ (1 + t + 1 + max 1 k) * c
table_fits t k n c room = let more = mul-le-mul_right c (le-max_right 1 k) in omega (arith, room, more)

-- the L1 table lies in the created clusters
l1_fits : (new : Creation) → created_l1_offset new + 8 * created_l1_size new ≤ created_length new
l1_fits new =
    let c : ℕ = created_cluster_size new in
    let room = div_ceil_times (8 * created_l1_size new) c (one-le-pow new.cluster_bits 2 (omega arith)) in
    table_fits (created_table_clusters new) (clusters_for c (8 * created_l1_size new)) (8 * created_l1_size new) c room.0

-- no guest cluster of a created image has an L2 entry
module _ (new : Creation) (file : List ℕ) (created : IsCreated new file) where
  l1_zeros : AreZeros file (header_of file).l1_offset ((header_of file).l1_offset + 8 * (header_of file).l1_size)
  unfolding header_of
  l1_zeros i low high =
      let f : HasCreatedFields new file = created.header.fields in
      created.tables.l1_table i (omega (arith, f.l1_offset)) (omega (arith, f.l1_offset, f.l1_size, l1_fits new))

  pub created_word : (cluster : ℕ) → l2_word_of (active_tree file (header_of file)) (cluster_size (header_of file).cluster_bits) cluster ≡ 0
  created_word cluster = l2_word_of-unmapped file (cluster_size (header_of file).cluster_bits) (header_of file).l1_offset (header_of file).l1_size cluster l1_zeros

  pub created_entry : (cluster : ℕ) → l2_entry (l2_word_of (active_tree file (header_of file)) (cluster_size (header_of file).cluster_bits) cluster) ≡ Unallocated
  created_entry cluster = ap l2_entry (created_word cluster) ∙ l2_entry-zero

  created_size : (header_of file).size ≡ new.size
  unfolding header_of
  created_size = created.header.fields.size

pub created_byte : (new : Creation) (file backing : List ℕ) (place : ℕ) → IsCreated new file → guest_byte file backing place ≡ slice_index backing place
unfolding guest_byte
created_byte new file backing place created =
    let entry = created_entry new file created (place / cluster_size (header_of file).cluster_bits) in
    rw entry refl

-- so its disk is its backing disk, cut at its own size or filled up with zeros
pub created_disk : (new : Creation) (file backing : List ℕ) → IsCreated new file → image_disk file backing ≡ place_bytes backing 0 new.size
unfolding image_disk
created_disk new file backing created =
    let size = created_size new file created in
    let len = length-map-range_with_len (guest_byte file backing) 0 new.size in
    let same : map (guest_byte file backing) (range_with_len 0 new.size) ≡ place_bytes backing 0 (length (map (guest_byte file backing) (range_with_len 0 new.size))) =
    bytes_from_places backing (map (guest_byte file backing) (range_with_len 0 new.size)) 0
    (λ k below. get_or-map-range_with_len (guest_byte file backing) 0 new.size k (0 + k) 0 (omega (arith, len)) refl ∙ created_byte new file backing (0 + k) created) in
    rw size (same ∙ ap (place_bytes backing 0) len)
