-- What a write into one cluster leaves: the header, the refcount table, the tree, and the refcounts in other blocks.
use Rattle.std.proofs.Common.{◌≡◌, ◌≢◌, ℕ, ◌+◌, ◌*◌, ◌/◌, ◌%◌, ◌<◌, ◌≤◌, ◌⊎◌, inl, inr, false, not, ◌||◌, eqb, ltb, List, length, get_or, None, refl, ap, ◌∙◌, arith}
use Rattle.std.proofs.lemmas.Bool.{or_parts, not-false, eqb-true, ltb-true, cases_lt}
use Rattle.std.proofs.lemmas.Grind.{div_ceil_times}
use Rattle.std.proofs.lemmas.List.{get_or_past}
use Rattle.std.proofs.Math.Nat.{mul-le-mul_left}
use Rattle.std.proofs.lemmas.Nat.{div-add-mod'}
use Rattle.q2_format.specs.Bytes.{words_at, ReadsAlike, IsWritten}
use Rattle.q2_format.specs.Entry.{host_offset, block_offset}
use Rattle.q2_format.specs.References.{names_cluster}
use Rattle.q2_format.specs.Sizes.{cluster_size, clusters_for, entries_in_cluster, l1_entries_for, refcount_bytes}
use Rattle.q2_format.specs.Sound.{is_misplaced, lowest, bad_refcount_table, bad_l1_table, bad_block, bad_l2_table}
use Rattle.q2_format.specs.Tables.{Tree, active_tree, refcount_table, refcount_of}
use Rattle.q2_format.specs.declared.header.Header.{Header}
use Rattle.q2_format.proofs.ByPlace.{number_at-within}
use Rattle.q2_format.proofs.Consistent.{FindsNothing}
use Rattle.q2_format.proofs.Firsts.{lowest-none, option_map-none, refused_where-none}
use Rattle.q2_format.proofs.Frames.{words_at-alike, cluster_before}
use Rattle.q2_format.proofs.TreeFrames.{tree_at-alike}
use Rattle.q2_format.proofs.Trees.{l1_of_tree, length_l1}
use Rattle.q2_refs.specs.Loading.{HasShape}
use Rattle.q2_refs.proofs.Ranges.{in_block, block_at, width_two, block_is_whole}
use Rattle.q2_refs.proofs.Uses.{IsApart, table_run, table_uses, run_lacks, names_another, count_zero}

-- Offsets in their places.

pub whole_of : (c len offset : ℕ) → is_misplaced c len offset ≡ false → offset % c ≡ 0
whole_of c len offset placed =
    let parts = or_parts (not (eqb (offset % c) 0)) (not (ltb offset len)) placed in
    eqb-true (offset % c) 0 (not-false (eqb (offset % c) 0) parts.0)

pub below_of : (c len offset : ℕ) → is_misplaced c len offset ≡ false → offset < len
below_of c len offset placed =
    let parts = or_parts (not (eqb (offset % c) 0)) (not (ltb offset len)) placed in
    ltb-true offset len (not-false (ltb offset len) parts.1)

pub table_placed : (h : Header) (len : ℕ) → bad_refcount_table h len ≡ None → (eqb h.ref_clusters 0 ≡ false) × (is_misplaced (cluster_size h.cluster_bits) len h.ref_offset ≡ false)
unfolding bad_refcount_table
table_placed h len none =
    or_parts (eqb h.ref_clusters 0) (is_misplaced (cluster_size h.cluster_bits) len h.ref_offset)
    (refused_where-none (eqb h.ref_clusters 0 || is_misplaced (cluster_size h.cluster_bits) len h.ref_offset) h.ref_offset none)

pub l1_placed : (h : Header) (len : ℕ) → bad_l1_table h len ≡ None → (ltb h.l1_size (l1_entries_for (cluster_size h.cluster_bits) h.size) ≡ false) × (is_misplaced (cluster_size h.cluster_bits) len h.l1_offset ≡ false)
unfolding bad_l1_table
l1_placed h len none =
    let c : ℕ = cluster_size h.cluster_bits in
    or_parts (ltb h.l1_size (l1_entries_for c h.size)) (is_misplaced c len h.l1_offset)
    (refused_where-none (ltb h.l1_size (l1_entries_for c h.size) || is_misplaced c len h.l1_offset) h.l1_offset none)

-- A write into cluster k.

pub record IsWithin (k c at : ℕ) (bytes : List ℕ) : Type 0 where
  pub low : k * c ≤ at
  pub high : at + length bytes ≤ k * c + c

mod_below : (n w : ℕ) → 0 < w → n % w < w
mod_below n w some = omega arith

rows : (a b k c : ℕ) → a + b ≤ k → a * c + b * c ≤ k * c
rows a b k c h = omega (arith, mul-le-mul_left c h)

-- a span of other clusters reads as before
pub span_apart : (old new : List ℕ) (k c at : ℕ) (bytes : List ℕ) → IsWritten old new at bytes → IsWithin k c at bytes
    → (first count offset n : ℕ) → offset ≡ first * c → n ≤ count * c → (k < first) ⊎ (first + count ≤ k) → ReadsAlike old new offset n
span_apart old new k c at bytes written within first count offset n is fits (inl before) =
    let gap = cluster_before c k first before in
    record { same = λ i low high. written.outside i (inr (omega (arith, within.high))) }
span_apart old new k c at bytes written within first count offset n is fits (inr behind) =
    let gap = rows first count k c behind in
    record { same = λ i low high. written.outside i (inl (omega (arith, within.low))) }

-- an offset is its cluster's
pub first_of : (c offset : ℕ) → offset % c ≡ 0 → offset ≡ offset / c * c
first_of c offset whole = let parts = div-add-mod' offset c in omega (arith, parts, whole)

other_side : (k first : ℕ) → first ≢ k → (k < first) ⊎ (first + 1 ≤ k)
other_side k first other = elim (cases_lt k first) [
  | inl before ↦ inl before
  | inr low ↦ inr (omega arith)
]

-- a span within one other cluster
pub cluster_apart : (old new : List ℕ) (k c at : ℕ) (bytes : List ℕ) → IsWritten old new at bytes → IsWithin k c at bytes
    → (offset n : ℕ) → offset % c ≡ 0 → n ≤ c → offset / c ≢ k → ReadsAlike old new offset n
cluster_apart old new k c at bytes written within offset n whole fits other =
    span_apart old new k c at bytes written within (offset / c) 1 offset n (first_of c offset whole) (omega arith) (other_side k (offset / c) other)

eight : (n c : ℕ) → 8 * (n * (c / 8)) ≤ n * c
eight n c = let one : 8 * (c / 8) ≤ c = omega arith in omega (arith, mul-le-mul_left n one)

pub l2_placed : (c len : ℕ) (tree : Tree) → bad_l2_table c len tree ≡ None → (i : ℕ) → i < length tree.l1 → is_misplaced c len (host_offset (get_or tree.l1 i 0)) ≡ false
unfolding bad_l2_table
l2_placed c len tree none i h =
    let nowhere = option_map-none (λ k. host_offset (get_or tree.l1 k 0)) (lowest (λ k. is_misplaced c len (host_offset (get_or tree.l1 k 0))) (length tree.l1)) none in
    lowest-none (λ k. is_misplaced c len (host_offset (get_or tree.l1 k 0))) (length tree.l1) nowhere i h

pub block_placed : (c len : ℕ) (table : List ℕ) → bad_block c len table ≡ None → (i : ℕ) → i < length table → is_misplaced c len (block_offset (get_or table i 0)) ≡ false
unfolding bad_block
block_placed c len table none i h =
    let nowhere = option_map-none (λ k. block_offset (get_or table k 0)) (lowest (λ k. is_misplaced c len (block_offset (get_or table k 0))) (length table)) none in
    lowest-none (λ k. is_misplaced c len (block_offset (get_or table k 0))) (length table) nowhere i h

zero_whole : (c : ℕ) → 0 < c → 0 % c ≡ 0
zero_whole c some = omega arith

-- each block is whole, also the one that an entry past the table names, which is none
pub blocks_whole : (c len : ℕ) (table : List ℕ) → 0 < c → bad_block c len table ≡ None → (i : ℕ) → block_offset (get_or table i 0) % c ≡ 0
blocks_whole c len table some none i = elim (cases_lt i (length table)) [
  | inl below ↦ whole_of c len (block_offset (get_or table i 0)) (block_placed c len table none i below)
  | inr past ↦ ap (λ (word : ℕ). block_offset word % c) (get_or_past table i 0 past) ∙ zero_whole c some
]

module _ (old new : List ℕ) (h : Header) (len k at : ℕ) (bytes : List ℕ) (some : 0 < cluster_size h.cluster_bits) (written : IsWritten old new at bytes)
    (within : IsWithin k (cluster_size h.cluster_bits) at bytes) (nothing : FindsNothing old h len) where
  -- the refcount table stays where the cluster isn't one of its own
  pub table_stays : table_run h k ≡ 0 → refcount_table new h ≡ refcount_table old h
  unfolding refcount_table
  table_stays none =
      let c : ℕ = cluster_size h.cluster_bits in
      let whole = whole_of c len h.ref_offset (table_placed h len nothing.refcount_table).1 in
      let fits : 8 * (h.ref_clusters * entries_in_cluster c) ≤ h.ref_clusters * c = eight h.ref_clusters c in
      words_at-alike old new h.ref_offset (h.ref_clusters * entries_in_cluster c)
      (span_apart old new k c at bytes written within (h.ref_offset / c) h.ref_clusters h.ref_offset _ (first_of c h.ref_offset whole) fits (run_lacks c k h.ref_offset h.ref_clusters none))

  l2_apart : table_uses old h k ≡ 0 → (i : ℕ) → i < h.l1_size → host_offset (get_or (words_at old h.l1_offset h.l1_size) i 0) ≢ 0
      → ReadsAlike old new (host_offset (get_or (words_at old h.l1_offset h.l1_size) i 0)) (8 * entries_in_cluster (cluster_size h.cluster_bits))
  l2_apart none i below there =
      let c : ℕ = cluster_size h.cluster_bits in
      let row = l1_of_tree old c h.l1_offset h.l1_size in
      let inside : i < length (active_tree old h).l1 = omega (arith, below, length_l1 old c h.l1_offset h.l1_size) in
      let unnamed = rw row at (count_zero (λ word. names_cluster c k (host_offset word)) (active_tree old h).l1 i none inside) in
      let placed = rw row at (l2_placed c len (active_tree old h) nothing.l2_tables i inside) in
      let offset : ℕ = host_offset (get_or (words_at old h.l1_offset h.l1_size) i 0) in
      cluster_apart old new k c at bytes written within offset (8 * entries_in_cluster c) (whole_of c len offset placed) (omega arith) (names_another c k offset there unnamed)

  -- and the tree where the cluster is apart
  pub tree_stays : IsApart old h k → active_tree new h ≡ active_tree old h
  tree_stays apart =
      let c : ℕ = cluster_size h.cluster_bits in
      let l1_whole = whole_of c len h.l1_offset (l1_placed h len nothing.l1_table).1 in
      let enough = div_ceil_times (8 * h.l1_size) c some in
      let l1 = span_apart old new k c at bytes written within (h.l1_offset / c) (clusters_for c (8 * h.l1_size)) h.l1_offset (8 * h.l1_size) (first_of c h.l1_offset l1_whole) enough.0
      (run_lacks c k h.l1_offset (clusters_for c (8 * h.l1_size)) apart.l1) in
      tree_at-alike old new c h.l1_offset h.l1_size (record { l1 = l1; l2 = λ i below other there. l2_apart apart.l2 i below there })

  -- the header's cluster
  pub header_stays : k ≢ 0 → ReadsAlike old new 0 (cluster_size h.cluster_bits)
  header_stays other =
      let c : ℕ = cluster_size h.cluster_bits in
      span_apart old new k c at bytes written within 0 1 0 c (omega arith) (omega arith) (inr (omega arith))

  -- a refcount in a block that lies in another cluster
  pub count_stays : HasShape h → (cluster : ℕ) → get_or (refcount_table new h) (cluster / in_block h) 0 ≡ get_or (refcount_table old h) (cluster / in_block h) 0
      → block_at old h (cluster / in_block h) / cluster_size h.cluster_bits ≢ k → refcount_of new h cluster ≡ refcount_of old h cluster
  unfolding refcount_of
  count_stays shape cluster word other =
      let c : ℕ = cluster_size h.cluster_bits in
      let offset : ℕ = block_at old h (cluster / in_block h) in
      let whole = blocks_whole c len (refcount_table old h) some nothing.blocks (cluster / in_block h) in
      let column = mod_below cluster (in_block h) (omega (arith, block_is_whole h shape)) in
      let alike = cluster_apart old new k c at bytes written within offset c whole (omega arith) other in
      let width = width_two h shape in
      let number = number_at-within old new offset c (offset + cluster % in_block h * refcount_bytes h.refcount_order) (refcount_bytes h.refcount_order) alike (omega arith)
      (rw width (omega (arith, block_is_whole h shape, column))) in
      rw (word, number) refl
