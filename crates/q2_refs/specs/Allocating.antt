-- Taking a cluster: what is kept afterwards, what the file is, and what of it stays.
use Rattle.std.specs.Prelude.{◌≡◌, ◌≢◌, ◌⊎◌, ℕ, ◌+◌, ◌-◌, ◌*◌, ◌/◌, ◌%◌, ◌==◌, if◌then◌else◌, List, [], ◌∷◌, ◌++◌, length, replicate, count_by, slice_index, slice_set, Some, None, Result, Ok, Err}
use Rattle.blk_base.specs.Content.{Write}
use Rattle.blk_base.specs.Device.{Untouched, Writes}
use Rattle.blk_base.specs.Writes.{write_of, first_bytes, end_of_writes, IsCutBy, IsPart}
use Rattle.blk_base.specs.declared.device.Device.{Ghosts}
use Rattle.blk_base.specs.declared.fault.DevStop.{DevStop}
use Rattle.byteorder.specs.Endian.{big_bytes}
use Rattle.q2_format.specs.Sizes.{cluster_size}
use Rattle.q2_format.specs.Entry.{block_offset}
use Rattle.q2_format.specs.Header.{header_of}
use Rattle.q2_format.specs.References.{names_cluster, in_run, uses}
use Rattle.q2_format.specs.Sound.{IsSound}
use Rattle.q2_format.specs.Tables.{active_tree, refcount_table, refcount_of}
use Rattle.q2_format.specs.declared.header.Header.{Header}
use Rattle.q2_refs.specs.declared.allocating.RefStop.{RefStop}
use Rattle.q2_refs.specs.declared.allocating.RefStop.TheVariants.{Dev, HostLimit}
use Rattle.q2_refs.specs.Free.{free_cluster}
use Rattle.q2_refs.specs.Kept.{KeptRefs, IsCountsOf, per_block}

-- the file is sound, and what is kept is its refcounts
pub record IsInStep (file : List ℕ) (kept : KeptRefs) : Type 0 where
  pub sound : IsSound file
  pub counts : IsCountsOf file (header_of file) kept

-- what is kept once cluster n counts one
abbrev pub with_one : KeptRefs → ℕ → KeptRefs
with_one kept n = record kept { counts = slice_set kept.counts n 1 }

-- the first cluster of block i's range, where that block is put
abbrev pub place_of_block : KeptRefs → ℕ → ℕ
place_of_block kept i = i * per_block kept

-- what is kept once block i is put there: the table names it, and its cluster counts one
abbrev pub with_block : KeptRefs → ℕ → KeptRefs
with_block kept i = record kept {
  table = slice_set kept.table i (place_of_block kept i * cluster_size kept.cluster_bits);
  counts = slice_set kept.counts (place_of_block kept i) 1;
}

-- what is kept once the block of a cluster is there
abbrev pub with_block_for : KeptRefs → ℕ → KeptRefs
with_block_for kept cluster =
    let i = cluster / per_block kept in
    if block_offset (slice_index kept.table i) == 0 then with_block kept i else kept

-- where the refcount of a cluster is, whose block is there
abbrev pub count_place : KeptRefs → ℕ → ℕ
count_place kept n =
    block_offset (slice_index kept.table (n / per_block kept)) + n % per_block kept * 2

-- the offset of the first cluster of block i's range, where that block is put
abbrev pub offset_of_block : KeptRefs → ℕ → ℕ
offset_of_block kept i = place_of_block kept i * cluster_size kept.cluster_bits

-- the bytes of a new block: it counts one of its own cluster, which is its first, and none of the others
unfoldable pub new_block : ℕ → List ℕ
new_block len = big_bytes 2 1 ++ replicate (len - 2) 0

-- the writes by which block i is put there: its bytes, and then its entry in the table
unfoldable pub block_writes : KeptRefs → ℕ → List Write
block_writes kept i =
    write_of (offset_of_block kept i) (new_block (cluster_size kept.cluster_bits))
    ∷ write_of (kept.table_offset + 8 * i) (big_bytes 8 (offset_of_block kept i))
    ∷ []

-- the writes by which the block of a cluster is put, none where it is there
abbrev pub block_writes_for : KeptRefs → ℕ → List Write
block_writes_for kept n =
    let i = n / per_block kept in
    if block_offset (slice_index kept.table i) == 0 then block_writes kept i else []

-- the write by which a cluster counts one, whose block is there
unfoldable pub count_write : KeptRefs → ℕ → Write
count_write kept n = write_of (count_place kept n) (big_bytes 2 1)

-- the writes of a call that gives cluster n: for its block, and then its refcount
abbrev pub allocation_writes : KeptRefs → ℕ → List Write
allocation_writes kept n = block_writes_for kept n ++ count_write (with_block_for kept n) n ∷ []

-- how often the refcount table and its blocks lie on a cluster
abbrev pub refcount_uses : List ℕ → Header → ℕ → ℕ
refcount_uses file h cluster = let c = cluster_size h.cluster_bits in
    in_run c cluster h.ref_offset h.ref_clusters
    + count_by (λ word. names_cluster c cluster (block_offset word)) (refcount_table file h)

-- What stays of a sound file: its header, its tree, and of each cluster that counts, its uses, its refcount and,
-- but for the refcount table and the blocks, its bytes.
pub record KeepsCounted (old new : List ℕ) (h : Header) : Type 0 where
  pub header : header_of new ≡ h
  pub tree : active_tree new h ≡ active_tree old h
  pub uses_stay : (k : ℕ) → refcount_of old h k ≢ 0 → uses new h k ≡ uses old h k
  pub refcounts_stay : (k : ℕ) → refcount_of old h k ≢ 0 → refcount_of new h k ≡ refcount_of old h k
  pub structure : (k : ℕ) → refcount_of old h k ≢ 0 → refcount_uses new h k ≡ refcount_uses old h k
  pub bytes : (i : ℕ) → refcount_of old h (i / cluster_size h.cluster_bits) ≢ 0
      → refcount_uses old h (i / cluster_size h.cluster_bits) ≡ 0
      → slice_index new i ≡ slice_index old i

-- the highest end of what a call writes that gives cluster n
abbrev pub end_of_allocation : KeptRefs → ℕ → ℕ
end_of_allocation kept n = end_of_writes (allocation_writes kept n)

-- the writes of an allocation, by its answer
abbrev pub writes_of_answer : KeptRefs → Result ℕ RefStop → List Write
writes_of_answer kept (Ok cluster) = allocation_writes kept cluster
writes_of_answer kept (Err (Dev stop)) = allocation_writes kept (free_cluster kept 0)
writes_of_answer kept (Err HostLimit) = []

-- the writes up to a refcount of which nothing was written
abbrev pub all_but_count : KeptRefs → ℕ → List Write
all_but_count kept n =
    block_writes_for kept n ++ first_bytes 0 (count_write (with_block_for kept n) n) ∷ []

-- What a stop leaves of an allocation that gives cluster n: it came in the writes of the block, which isn't kept; or the block
-- was put and is kept, and it came at the refcount, of which nothing was written.
pub record StopsAllocating {D : Type 0} (g : Ghosts D) (kept : KeptRefs) (n : ℕ) (stop : DevStop)
    (left : KeptRefs) (old new : D) : Type 0 where
  pub writes : Writes g (allocation_writes kept n) (Some stop) old new
  pub known : ((left ≡ kept) × IsPart (IsCutBy stop) (block_writes_for kept n) writes.made)
      ⊎ ((left ≡ with_block_for kept n) × (writes.made ≡ all_but_count kept n))

-- what an allocation leaves, by its answer
abbrev pub Allocates : {D : Type 0} → Ghosts D → KeptRefs → Result ℕ RefStop → KeptRefs → D → D
    → Type 0
Allocates g kept (Ok cluster) left old new =
    (left ≡ with_one (with_block_for kept cluster) cluster)
    × Writes g (allocation_writes kept cluster) None old new
Allocates g kept (Err (Dev stop)) left old new =
    StopsAllocating g kept (free_cluster kept 0) stop left old new
Allocates g kept (Err HostLimit) left old new = (left ≡ kept) × Untouched g old new

-- a file in which all is sound, and of what counted in an older one all stays
pub record KeepsSound (old new : List ℕ) : Type 0 where
  pub sound : IsSound new
  pub keeps : KeepsCounted old new (header_of old)

-- what is kept of one image before and after
pub record IsAlike (old new : KeptRefs) : Type 0 where
  pub cluster_bits : new.cluster_bits ≡ old.cluster_bits
  pub refcount_order : new.refcount_order ≡ old.refcount_order
  pub table_offset : new.table_offset ≡ old.table_offset
  pub table : length new.table ≡ length old.table
  pub reach : length new.counts ≡ length old.counts
