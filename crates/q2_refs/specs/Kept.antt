-- What is kept in memory of an image's refcounts, and of which file it is.
use Rattle.std.specs.Prelude.{◌≡◌, ◌≢◌, ℕ, ◌+◌, ◌*◌, ◌/◌, ◌%◌, ◌^◌, ◌<◌, ◌≤◌, List, length, slice_index, Option}
use Rattle.blk_base.specs.Files.{IfTold}
use Rattle.q2_format.specs.Bytes.{number_at}
use Rattle.q2_format.specs.Sizes.{cluster_size, block_entries, refcount_bytes}
use Rattle.q2_format.specs.Entry.{block_offset}
use Rattle.q2_format.specs.Tables.{refcount_table, refcount_of}
use Rattle.q2_format.specs.declared.header.Header.{Header}

-- the shape of the image, where its refcount table is, the table's words, and the refcounts of the first clusters
pub record KeptRefs : Type 0 where
  pub cluster_bits : ℕ
  pub refcount_order : ℕ
  pub table_offset : ℕ
  pub table : List ℕ
  pub counts : List ℕ

-- how many clusters one refcount block counts
abbrev pub per_block : KeptRefs → ℕ
per_block kept = block_entries (cluster_size kept.cluster_bits) kept.refcount_order

-- what is kept has the shape and the place that a header says
pub record IsShapedBy (h : Header) (kept : KeptRefs) : Type 0 where
  pub cluster_bits : kept.cluster_bits ≡ h.cluster_bits
  pub refcount_order : kept.refcount_order ≡ h.refcount_order
  pub table_offset : kept.table_offset ≡ h.ref_offset

-- what is kept is what a file has
pub record IsCountsOf (file : List ℕ) (h : Header) (kept : KeptRefs) : Type 0 where
  pub shape : IsShapedBy h kept
  pub table : kept.table ≡ refcount_table file h
  pub counts : (k : ℕ) → k < length kept.counts → slice_index kept.counts k ≡ refcount_of file h k

-- each block of a table lies at a multiple of the cluster size
abbrev pub AreWholeClusters : ℕ → List ℕ → Type 0
AreWholeClusters c table = (i : ℕ) → i < length table → block_offset (slice_index table i) % c ≡ 0

-- and begins below the end of a file of `len` bytes
abbrev pub BeginBelow : ℕ → List ℕ → Type 0
BeginBelow len table = (i : ℕ) → i < length table → block_offset (slice_index table i) < len

-- of the first counts, below a number, those of absent blocks are 0, where each block has n
abbrev pub AreAbsentZero : ℕ → List ℕ → List ℕ → ℕ → Type 0
AreAbsentZero n table counts below = (k : ℕ) → k < below
    → block_offset (slice_index table (k / n)) ≡ 0 → slice_index counts k ≡ 0

-- a cluster whose block is absent counts 0
abbrev pub AreAbsentFree : KeptRefs → Type 0
AreAbsentFree kept = AreAbsentZero (per_block kept) kept.table kept.counts (length kept.counts)

-- counts of w bytes from a place on, at most n of them, are those of a block at an offset of a file of `len` bytes, which is the
-- told one where one is told
pub record StandsAsBlock (told : Option (List ℕ)) (len offset w n from : ℕ) (counts : List ℕ) : Type
    0 where
  pub file : List ℕ
  pub is : IfTold told (λ bytes. file ≡ bytes)
  pub size : length file ≡ len
  pub are : (k : ℕ) → k < n → from + k < length counts
      → slice_index counts (from + k) ≡ number_at file (offset + k * w) w

-- so are, of the first blocks, below a number, the counts of those that are there
abbrev pub BlocksStand : Option (List ℕ) → ℕ → ℕ → ℕ → List ℕ → List ℕ → ℕ → Type 0
BlocksStand told len w n table counts below =
    (i : ℕ) → i < below → block_offset (slice_index table i) ≢ 0
    → StandsAsBlock told len (block_offset (slice_index table i)) w n (i * n) counts

-- the refcounts are those of blocks of such files
abbrev pub CountsStand : Option (List ℕ) → ℕ → KeptRefs → Type 0
CountsStand told len kept =
    BlocksStand told len (refcount_bytes kept.refcount_order) (per_block kept) kept.table
    kept.counts (length kept.table)

-- each of the first counts, below a number, is above 0
abbrev pub AreTaken : List ℕ → ℕ → Type 0
AreTaken counts below = (k : ℕ) → k < below → slice_index counts k ≢ 0

-- what holds of all that is kept: no count below the cursor is 0, a cluster fits in the buffer, and every
-- cluster that has a count has an entry of the table
pub record IsReady (kept : KeptRefs) (free_from buffer_length : ℕ) : Type 0 where
  pub cluster_bits : kept.cluster_bits ≡ 16
  pub refcount_order : kept.refcount_order ≡ 4
  pub table_place : kept.table_offset % cluster_size kept.cluster_bits ≡ 0
  pub table_low : kept.table_offset < 2 ^ 40
  pub table : length kept.table ≤ 2 ^ 17
  pub blocks : AreWholeClusters (cluster_size kept.cluster_bits) kept.table
  pub reach : length kept.counts ≤ length kept.table * per_block kept
  pub small : length kept.counts ≤ 2 ^ 24
  pub cursor : free_from ≤ length kept.counts
  pub taken : AreTaken kept.counts free_from
  pub buffer : buffer_length ≡ cluster_size kept.cluster_bits
