-- A created image: nothing is mapped, and each of its clusters has refcount 1.
use Rattle.std.specs.Prelude.{◌≡◌, ℕ, ◌+◌, ◌*◌, ◌/◌, ◌<◌, ◌≤◌, min, max, ◌==◌, nat_lt, if◌then◌else◌, true, List, length, slice_index, Option, IfSome, is_some}
use Rattle.std.specs.Int.{div_ceil}
use Rattle.std.specs.Option.{option_map, option_map_or, ForSome}
use Rattle.std.specs.Str.{IsUtf8}
use Rattle.q2_format.specs.Bytes.{number_at, place_bytes}
use Rattle.q2_format.specs.Sizes.{cluster_size, clusters_for, entries_in_cluster, refcount_bytes, block_entries, l1_entries_for}
use Rattle.q2_format.specs.Header.{magic_of, version_of, name_offset_of, name_length_of, cluster_bits_of, size_of, crypt_method_of, l1_size_of, l1_offset_of, refcount_table_offset_of, refcount_table_clusters_of, nb_snapshots_of, snapshots_offset_of, incompatible_of, compatible_of, autoclear_of, refcount_order_of, header_length_of, extension_type, extension_length}
use Rattle.q2_format.specs.declared.header.Header.{Header}
use Rattle.q2_format.specs.declared.header.TheConstants.{MAX_DISK_SIZE, MAX_NAME_LENGTH}
use Rattle.q2_format.specs.declared.extensions.TheConstants.{BACKING_FORMAT}

-- what a created image is made from; the texts are bytes
pub record Creation : Type 0 where
  pub cluster_bits : ℕ
  pub refcount_order : ℕ
  pub size : ℕ
  pub name : Option (List ℕ)
  pub format : Option (List ℕ)

-- a backing name that a new image may have, and a format
abbrev pub IsNewName : List ℕ → Type 0
IsNewName name = (1 ≤ length name) × (length name ≤ MAX_NAME_LENGTH)

abbrev pub IsNewFormat : List ℕ → Type 0
IsNewFormat format = (1 ≤ length format) × (length format ≤ 8)

-- what an image may be created from, in the shape that is supported
pub record CanBeCreated (size : ℕ) (name format : Option (List ℕ)) : Type 0 where
  pub small : size ≤ MAX_DISK_SIZE
  pub name_fits : ForSome name IsNewName
  pub name_is_text : ForSome name IsUtf8
  pub format_fits : ForSome format IsNewFormat

-- in the shape that is supported: clusters of 64 KiB and refcounts of 16 bits
abbrev pub creation_of : ℕ → Option (List ℕ) → Option (List ℕ) → Creation
creation_of size name format = record {
  cluster_bits = 16;
  refcount_order = 4;
  size = size;
  name = name;
  format = format;
}

abbrev pub created_cluster_size : Creation → ℕ
created_cluster_size new = cluster_size new.cluster_bits

abbrev pub created_l1_size : Creation → ℕ
created_l1_size new = l1_entries_for (created_cluster_size new) new.size

-- The clusters of the refcount table: room for twice the clusters of a full disk with its tables.
abbrev pub created_table_clusters : Creation → ℕ
created_table_clusters new =
    let c = created_cluster_size new in
    let in_one = entries_in_cluster c * block_entries c new.refcount_order in
    min 16 (div_ceil (2 * (clusters_for c new.size + created_l1_size new + 64)) in_one)

-- the clusters of the L1 table
abbrev pub created_l1_clusters : Creation → ℕ
created_l1_clusters new = max 1 (clusters_for (created_cluster_size new) (8 * created_l1_size new))

-- the clusters of the file: the header, the refcount table, one refcount block, and the L1 table
abbrev pub created_clusters : Creation → ℕ
created_clusters new = 1 + created_table_clusters new + 1 + created_l1_clusters new

abbrev pub created_block_offset : Creation → ℕ
created_block_offset new = (1 + created_table_clusters new) * created_cluster_size new

abbrev pub created_l1_offset : Creation → ℕ
created_l1_offset new = (2 + created_table_clusters new) * created_cluster_size new

-- a backing name stands in the middle of the header's cluster
abbrev pub created_name_offset : Creation → ℕ
created_name_offset new = created_cluster_size new / 2

-- where the ending extension begins: at 112, or behind the one that names the backing format
abbrev pub created_end_extension : Creation → ℕ
created_end_extension new =
    option_map_or (λ (format : List ℕ). 120 + (length format + 7) / 8 * 8) new.format 112

-- the bytes from one place to another are 0
abbrev pub AreZeros : List ℕ → ℕ → ℕ → Type 0
AreZeros file from to = (i : ℕ) → from ≤ i → i < to → slice_index file i ≡ 0

-- the extension at 112 that names the backing format
pub record IsFormatExtension (file format : List ℕ) : Type 0 where
  pub kind : extension_type file 112 ≡ BACKING_FORMAT
  pub length_field : extension_length file 112 ≡ length format
  pub text : place_bytes file 120 (length format) ≡ format
  pub padding : AreZeros file (120 + length format) (120 + (length format + 7) / 8 * 8)

-- The header cluster of a created image, each byte of it: its fields up to 112, its extensions up to the
-- middle of the cluster, and its backing name.

pub record HasCreatedFields (new : Creation) (file : List ℕ) : Type 0 where
  pub magic : magic_of file ≡ 0x514649fb
  pub version : version_of file ≡ 3
  pub name_offset : name_offset_of file ≡ (if is_some new.name then created_name_offset new else 0)
  pub name_length : name_length_of file ≡ option_map_or length new.name 0
  pub cluster_bits : cluster_bits_of file ≡ new.cluster_bits
  pub size : size_of file ≡ new.size
  pub crypt_method : crypt_method_of file ≡ 0
  pub l1_size : l1_size_of file ≡ created_l1_size new
  pub l1_offset : l1_offset_of file ≡ created_l1_offset new
  pub refcount_table_offset : refcount_table_offset_of file ≡ created_cluster_size new
  pub refcount_table_clusters : refcount_table_clusters_of file ≡ created_table_clusters new
  pub nb_snapshots : nb_snapshots_of file ≡ 0
  pub snapshots_offset : snapshots_offset_of file ≡ 0
  pub incompatible : incompatible_of file ≡ 0
  pub compatible : compatible_of file ≡ 0
  pub autoclear : autoclear_of file ≡ 0
  pub refcount_order : refcount_order_of file ≡ new.refcount_order
  pub header_length : header_length_of file ≡ 112
  -- the compression type, which is 0 for deflate, and its padding
  pub compression_type : AreZeros file 104 112

pub record HasCreatedExtensions (new : Creation) (file : List ℕ) : Type 0 where
  pub format : IfSome new.format (IsFormatExtension file)
  -- the ending extension, and what lies between it and the name
  pub ending : AreZeros file (created_end_extension new) (created_name_offset new)

pub record HasCreatedName (new : Creation) (file : List ℕ) : Type 0 where
  pub text : IfSome new.name
      (λ name. place_bytes file (created_name_offset new) (length name) ≡ name)
  pub behind : AreZeros file (created_name_offset new + option_map_or length new.name 0)
      (created_cluster_size new)

pub record HasCreatedHeader (new : Creation) (file : List ℕ) : Type 0 where
  pub fields : HasCreatedFields new file
  pub extensions : HasCreatedExtensions new file
  pub name : HasCreatedName new file

-- what such a header says
abbrev pub created_header : Creation → Header
created_header new = record {
  size = new.size;
  cluster_bits = new.cluster_bits;
  l1_size = created_l1_size new;
  l1_offset = created_l1_offset new;
  ref_offset = created_cluster_size new;
  ref_clusters = created_table_clusters new;
  refcount_order = new.refcount_order;
  header_length = 112;
  nb_snaps = 0;
  snaps_offset = 0;
  compat = 0;
  autoclear = 0;
  name = option_map
      (λ (name : List ℕ). record { at = created_name_offset new; len = length name }) new.name;
  format = option_map (λ (format : List ℕ). record { at = 120; len = length format }) new.format;
  ext_end = created_end_extension new + 8;
  ended = true;
}

-- the bytes of the created clusters
abbrev pub created_length : Creation → ℕ
created_length new = created_clusters new * created_cluster_size new

-- The refcount table that begins at a place: its first entry names the one block.
pub record HasCreatedTable (new : Creation) (file : List ℕ) (at : ℕ) : Type 0 where
  pub entry : (k : ℕ)
      → k < created_table_clusters new * entries_in_cluster (created_cluster_size new)
      → number_at file (at + 8 * k) 8 ≡ (if k == 0 then created_block_offset new else 0)

-- The refcount block that begins at a place: it counts each created cluster once.
pub record HasCreatedCounts (new : Creation) (file : List ℕ) (at : ℕ) : Type 0 where
  pub count : (k : ℕ) → k < block_entries (created_cluster_size new) new.refcount_order
      → number_at file (at + k * refcount_bytes new.refcount_order)
      (refcount_bytes new.refcount_order)
      ≡ (if nat_lt k (created_clusters new) then 1 else 0)

-- what stands behind the header's cluster; a longer file has any bytes behind the created clusters
pub record HasCreatedTables (new : Creation) (file : List ℕ) : Type 0 where
  pub whole : created_length new ≤ length file
  pub refcount_table : HasCreatedTable new file (created_cluster_size new)
  pub refcounts : HasCreatedCounts new file (created_block_offset new)
  pub l1_table : AreZeros file (created_l1_offset new) (created_length new)

-- the whole image
pub record IsCreated (new : Creation) (file : List ℕ) : Type 0 where
  pub header : HasCreatedHeader new file
  pub tables : HasCreatedTables new file
