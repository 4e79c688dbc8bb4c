-- The tables of an image as its file has them: a tree of one L1 table with its L2 tables, and the refcounts.
use Rattle.std.specs.Prelude.{ℕ, ◌+◌, ◌*◌, ◌/◌, ◌%◌, ◌==◌, if◌then◌else◌, List, [], map, slice_index, slice_index_or}
use Rattle.q2_format.specs.Bytes.{number_at, words_at}
use Rattle.q2_format.specs.Sizes.{cluster_size, entries_in_cluster, refcount_bytes, block_entries}
use Rattle.q2_format.specs.Entry.{host_offset, block_offset}
use Rattle.q2_format.specs.declared.header.Header.{Header}

-- the words of an L1 table and, for each of them, those of the L2 table that it names
pub record Tree : Type 0 where
  pub l1 : List ℕ
  pub l2 : List (List ℕ)

-- the words of the L2 table that an L1 entry names, and none where it names no table
unfoldable pub l2_table : List ℕ → ℕ → ℕ → List ℕ
l2_table file c l1_word =
    if host_offset l1_word == 0 then []
    else words_at file (host_offset l1_word) (entries_in_cluster c)

-- the tree of the L1 table that begins at an offset and has `entries` entries
unfoldable pub tree_at : List ℕ → ℕ → ℕ → ℕ → Tree
tree_at file c offset entries = record {
  l1 = words_at file offset entries;
  l2 = map (l2_table file c) (words_at file offset entries);
}

-- the tree that the disk reads by
abbrev pub active_tree : List ℕ → Header → Tree
active_tree file h = tree_at file (cluster_size h.cluster_bits) h.l1_offset h.l1_size

-- the L2 entry of a guest cluster, 0 where the cluster has no L2 table
unfoldable pub l2_word_of : Tree → ℕ → ℕ → ℕ
l2_word_of tree c cluster =
    slice_index (slice_index_or tree.l2 (cluster / entries_in_cluster c) [])
    (cluster % entries_in_cluster c)

-- the words of the refcount table
unfoldable pub refcount_table : List ℕ → Header → List ℕ
refcount_table file h =
    words_at file h.ref_offset (h.ref_clusters * entries_in_cluster (cluster_size h.cluster_bits))

-- The refcount of a cluster: the table's entry names a block, and the block has it. Where the entry names
-- none, or lies past the table, the refcount is 0.
unfoldable pub refcount_of : List ℕ → Header → ℕ → ℕ
refcount_of file h cluster =
    let per_block = block_entries (cluster_size h.cluster_bits) h.refcount_order in
    let block = block_offset (slice_index (refcount_table file h) (cluster / per_block)) in
    let width = refcount_bytes h.refcount_order in
    if block == 0 then 0 else number_at file (block + cluster % per_block * width) width
