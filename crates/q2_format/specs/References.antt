-- How often an image names each cluster of its file. This is the one place that says what an image's references are.
use Rattle.std.specs.Prelude.{ℕ, ◌+◌, ◌*◌, ◌/◌, min, Bool, not, ◌==◌, ◌&&◌, nat_lt, if◌then◌else◌, List, count_by}
use Rattle.std.specs.List.{sum_by}
use Rattle.q2_format.specs.Sizes.{cluster_size, clusters_for, entries_in_cluster, block_entries}
use Rattle.q2_format.specs.Entry.{host_offset, block_offset, is_compressed}
use Rattle.q2_format.specs.Tables.{Tree, active_tree, refcount_table}
use Rattle.q2_format.specs.declared.header.Header.{Header}
use Rattle.q2_format.specs.declared.header.TheConstants.{MAX_FILE_CLUSTERS}

-- an entry with this offset names a cluster; the offset 0 names none
abbrev pub names_cluster : ℕ → ℕ → ℕ → Bool
names_cluster c cluster offset = not (offset == 0) && (offset / c == cluster)

-- a cluster lies in a run of `count` clusters, of which the first begins at an offset
abbrev pub in_run : ℕ → ℕ → ℕ → ℕ → ℕ
in_run c cluster offset count =
    if not (nat_lt cluster (offset / c)) && nat_lt cluster (offset / c + count) then 1 else 0

-- the host offset of an L2 entry, unless the cluster is compressed
abbrev pub own_offset : ℕ → ℕ
own_offset l2_word = if is_compressed l2_word then 0 else host_offset l2_word

-- the references that are no part of a tree: the header, the refcount table, its blocks, and the L1 table
unfoldable pub structure_uses : Header → List ℕ → ℕ → ℕ
structure_uses h table cluster = let c = cluster_size h.cluster_bits in
    (if cluster == 0 then 1 else 0)
    + in_run c cluster h.ref_offset h.ref_clusters
    + count_by (λ word. names_cluster c cluster (block_offset word)) table
    + in_run c cluster h.l1_offset (clusters_for c (8 * h.l1_size))

-- the references of a tree: its L2 tables, and the host clusters that their entries name, whether or not they lie within the disk
unfoldable pub tree_uses : ℕ → Tree → ℕ → ℕ
tree_uses c tree cluster =
    count_by (λ word. names_cluster c cluster (host_offset word)) tree.l1
    + sum_by (λ table. count_by (λ word. names_cluster c cluster (own_offset word)) table) tree.l2

-- how often an image names a cluster
unfoldable pub uses : List ℕ → Header → ℕ → ℕ
uses file h cluster =
    structure_uses h (refcount_table file h) cluster + tree_uses (cluster_size h.cluster_bits)
    (active_tree file h) cluster

-- No cluster from this one on is named, where every offset lies in the file: the tables begin there, and may end past it.
abbrev pub cluster_bound : Header → ℕ → ℕ
cluster_bound h len = let c = cluster_size h.cluster_bits in
    clusters_for c len + h.ref_clusters + clusters_for c (8 * h.l1_size)

-- How many clusters' refcounts are kept for a file of `len` bytes: those of the file and of all that the disk can
-- come to need, at most as many as a file may have, and no more than the refcount table has entries for.
abbrev pub reach_of : Header → ℕ → ℕ
reach_of h len =
    let c = cluster_size h.cluster_bits in
    let per_block = block_entries c h.refcount_order in
    let n = clusters_for c len + clusters_for c h.size + h.l1_size in
    min (n + n / (per_block / 2) + 65536)
    (min MAX_FILE_CLUSTERS (h.ref_clusters * entries_in_cluster c * per_block))
