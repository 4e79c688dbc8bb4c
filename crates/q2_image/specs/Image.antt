-- An image that is open, and the file that it is the image of.
use Rattle.std.specs.Prelude.{◌≡◌, ◌≢◌, ℕ, ◌*◌, ◌<◌, ◌≤◌, true, false, List, length, slice_index, IfSome, is_some}
use Rattle.q2_format.specs.Sizes.{cluster_size, clusters_for, entries_in_cluster, l1_entries_for}
use Rattle.q2_format.specs.Entry.{l2_entry}
use Rattle.q2_format.specs.References.{own_offset}
use Rattle.q2_format.specs.Header.{LiesWithin, header_of}
use Rattle.q2_format.specs.Tables.{active_tree}
use Rattle.q2_format.specs.Sound.{IsSound, is_header_full}
use Rattle.q2_format.specs.declared.header.Header.{Header}
use Rattle.q2_format.specs.declared.header.TheConstants.{MAX_DISK_SIZE, MAX_FILE_CLUSTERS, MIN_HEADER_LENGTH}
use Rattle.q2_format.specs.declared.entries.L2Entry.{L2Entry}
use Rattle.q2_tables.specs.Kept.{IsTreeOf, is_plain}
use Rattle.q2_tables.specs.Kept as tables
use Rattle.q2_refs.specs.Kept.{IsCountsOf, per_block}
use Rattle.q2_refs.specs.Kept as refs

-- what is known of an image: its header, and its tables and refcounts as they are kept
pub record Known : Type 0 where
  pub header : Header
  pub tables : tables.KeptTables
  pub refs : refs.KeptRefs

-- the bytes of its clusters, and how many clusters its disk has
abbrev pub cluster_size_in : Known → ℕ
cluster_size_in image = cluster_size image.header.cluster_bits

abbrev pub clusters_in : Known → ℕ
clusters_in image = clusters_for (cluster_size_in image) image.header.size

-- what is known is so of a file, which is sound
pub record IsImageOf (file : List ℕ) (image : Known) : Type 0 where
  pub sound : IsSound file
  pub header : header_of file ≡ image.header
  pub tables : IsTreeOf (cluster_size_in image) image.tables (active_tree file image.header)
  pub refs : IsCountsOf file image.header image.refs

-- the word of a guest cluster's L2 entry, as it is known
abbrev pub word_in : Known → ℕ → ℕ
word_in image cluster = slice_index image.tables.words cluster

-- what the entry says
abbrev pub entry_in : Known → ℕ → L2Entry
entry_in image cluster = l2_entry (word_in image cluster)

-- refcounts in the shape that is supported: the table has an entry for each
pub record HasRoom (kept : refs.KeptRefs) : Type 0 where
  pub cluster_bits : kept.cluster_bits ≡ 16
  pub refcount_order : kept.refcount_order ≡ 4
  pub covered : length kept.counts ≤ length kept.table * per_block kept

-- What holds of every image that is open, whether or not its device tells its bytes: each guest cluster has an
-- entry, and all sums of offsets fit.
pub record IsOpen (image : Known) : Type 0 where
  pub cluster_bits : image.header.cluster_bits ≡ 16
  pub tables_size : image.tables.c ≡ cluster_size_in image
  pub disk : image.header.size ≤ MAX_DISK_SIZE
  pub l1 : l1_entries_for (cluster_size_in image) image.header.size ≤ length image.tables.l1
  pub words : length image.tables.words
      ≡ length image.tables.l1 * entries_in_cluster (cluster_size_in image)
  pub plain : (cluster : ℕ) → cluster < length image.tables.words
      → is_plain (slice_index image.tables.words cluster) ≡ true
  pub l1_place : image.tables.l1_offset ≡ image.header.l1_offset
  pub l1_size : length image.tables.l1 ≡ image.header.l1_size
  -- each entry names a cluster below the reach
  pub hosts : (cluster : ℕ) → cluster < length image.tables.words
      → own_offset (slice_index image.tables.words cluster)
      < length image.refs.counts * cluster_size_in image
  pub reach : length image.refs.counts ≤ MAX_FILE_CLUSTERS
  pub refcounts : HasRoom image.refs
  -- the header's cluster counts
  pub first : slice_index image.refs.counts 0 ≢ 0
  -- the backing name and the format lie in it, and it has room for another name
  pub name : IfSome image.header.name (LiesWithin MIN_HEADER_LENGTH (cluster_size_in image))
  pub format : IfSome image.header.format (LiesWithin MIN_HEADER_LENGTH (cluster_size_in image))
  pub list : MIN_HEADER_LENGTH ≤ image.header.ext_end
  pub ended : image.header.ended ≡ false → is_some image.header.name ≡ true
  pub room : is_header_full image.header ≡ false
