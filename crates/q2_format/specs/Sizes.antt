-- The sizes that follow from a header's cluster_bits and refcount_order. A cluster's size is written c.
use Rattle.std.specs.Prelude.{ℕ, ◌*◌, ◌/◌, ◌^◌}
use Rattle.std.specs.Int.{div_ceil}

-- the bytes of a cluster
abbrev pub cluster_size : ℕ → ℕ
cluster_size cluster_bits = 2 ^ cluster_bits

-- how many clusters n bytes take, the last one in part
abbrev pub clusters_for : ℕ → ℕ → ℕ
clusters_for c n = div_ceil n c

-- the 8-byte entries of a cluster: of an L2 table, or of one cluster of the refcount table
abbrev pub entries_in_cluster : ℕ → ℕ
entries_in_cluster c = c / 8

-- the bytes of a refcount, for widths of whole bytes: a refcount_order of 3 to 6
abbrev pub refcount_bytes : ℕ → ℕ
refcount_bytes refcount_order = 2 ^ refcount_order / 8

-- how many refcounts a refcount block holds
abbrev pub block_entries : ℕ → ℕ → ℕ
block_entries c refcount_order = c * 8 / 2 ^ refcount_order

-- the L1 entries that a disk of this many bytes needs
abbrev pub l1_entries_for : ℕ → ℕ → ℕ
l1_entries_for c size = div_ceil (clusters_for c size) (entries_in_cluster c)
