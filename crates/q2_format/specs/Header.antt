-- The header of a qcow2 image, version 3: its fields by position, its list of extensions, and what is refused of it.
use Rattle.std.specs.Prelude.{◌≡◌, ◌≤◌, ℕ, zero, suc, ◌+◌, ◌*◌, ◌/◌, min, Bool, true, false, not, ◌==◌, ◌||◌, nat_lt, if◌then◌else◌, List, [], ◌∷◌, Option, None, Some, IfSome, Result, Ok, Err}
use Rattle.std.specs.Option.{option_map_or}
use Rattle.std.specs.Int.{trailing_zeros, w64}
use Rattle.std.specs.Str.{is_utf8}
use Rattle.q2_format.specs.Bytes.{number_at, place_bytes}
use Rattle.q2_format.specs.Sizes.{cluster_size, clusters_for}
use Rattle.q2_format.specs.declared.header.Header.{Header}
use Rattle.q2_format.specs.declared.header.Place.{Place}
use Rattle.q2_format.specs.declared.header.HeaderStop.{HeaderStop}
use Rattle.q2_format.specs.declared.header.HeaderStop.TheVariants.{Short, Magic, Version, ClusterBits, RefcountOrder, Feature, Crypt, Snapshots, BackingName, Extension, TooLarge}
use Rattle.q2_format.specs.declared.header.TheConstants.{MAX_DISK_SIZE, MAX_FILE_CLUSTERS, MAX_GUEST_CLUSTERS, MAX_L1_SIZE, MAX_NAME_LENGTH, MAX_REFCOUNT_TABLE_CLUSTERS, MIN_HEADER_LENGTH}
use Rattle.q2_format.specs.declared.extensions.ExtensionList.{ExtensionList}
use Rattle.q2_format.specs.declared.extensions.TheConstants.{END_OF_EXTENSIONS, BACKING_FORMAT}

-- the fields by position

abbrev pub magic_of : List ℕ → ℕ
magic_of file = number_at file 0 4

abbrev pub version_of : List ℕ → ℕ
version_of file = number_at file 4 4

abbrev pub name_offset_of : List ℕ → ℕ
name_offset_of file = number_at file 8 8

abbrev pub name_length_of : List ℕ → ℕ
name_length_of file = number_at file 16 4

abbrev pub cluster_bits_of : List ℕ → ℕ
cluster_bits_of file = number_at file 20 4

abbrev pub size_of : List ℕ → ℕ
size_of file = number_at file 24 8

abbrev pub crypt_method_of : List ℕ → ℕ
crypt_method_of file = number_at file 32 4

abbrev pub l1_size_of : List ℕ → ℕ
l1_size_of file = number_at file 36 4

abbrev pub l1_offset_of : List ℕ → ℕ
l1_offset_of file = number_at file 40 8

abbrev pub refcount_table_offset_of : List ℕ → ℕ
refcount_table_offset_of file = number_at file 48 8

abbrev pub refcount_table_clusters_of : List ℕ → ℕ
refcount_table_clusters_of file = number_at file 56 4

abbrev pub nb_snapshots_of : List ℕ → ℕ
nb_snapshots_of file = number_at file 60 4

abbrev pub snapshots_offset_of : List ℕ → ℕ
snapshots_offset_of file = number_at file 64 8

abbrev pub incompatible_of : List ℕ → ℕ
incompatible_of file = number_at file 72 8

abbrev pub compatible_of : List ℕ → ℕ
compatible_of file = number_at file 80 8

abbrev pub autoclear_of : List ℕ → ℕ
autoclear_of file = number_at file 88 8

abbrev pub refcount_order_of : List ℕ → ℕ
refcount_order_of file = number_at file 96 4

abbrev pub header_length_of : List ℕ → ℕ
header_length_of file = number_at file 100 4

-- a backing name is present exactly where its offset and its size aren't 0
unfoldable pub name_place_of : List ℕ → Option Place
name_place_of file =
    if name_offset_of file == 0 || name_length_of file == 0 then None
    else Some (record { at = name_offset_of file; len = name_length_of file })

-- The extensions. One at a place has its type there, its length behind that, and then its data; the
-- next begins behind the data, padded to a multiple of 8.

abbrev pub extension_type : List ℕ → ℕ → ℕ
extension_type file at = number_at file at 4

abbrev pub extension_length : List ℕ → ℕ → ℕ
extension_length file at = number_at file (at + 4) 4

abbrev pub extension_after : List ℕ → ℕ → ℕ
extension_after file at = at + 8 + (extension_length file at + 7) / 8 * 8

-- the backing format, once the extension at a place was read too
abbrev pub format_after : List ℕ → ℕ → Option Place → Option Place
format_after file at format =
    if extension_type file at == BACKING_FORMAT
    then Some (record { at = at + 8; len = extension_length file at })
    else format

-- the list from a place on, in an area that ends at `end`, where `format` was found before
unfoldable pub extension_list : ℕ → List ℕ → ℕ → ℕ → Option Place → ExtensionList
extension_list zero file at end format = record {
  overruns = false;
  format = format;
  end = min at end;
  ended = false;
}
extension_list (suc steps) file at end format =
    if nat_lt end (at + 8)
    then record { overruns = false; format = format; end = min at end; ended = false }
    else (if nat_lt end (at + 8 + extension_length file at)
    then record { overruns = true; format = format; end = at; ended = false }
    else (if extension_type file at == END_OF_EXTENSIONS
    then record { overruns = false; format = format; end = at + 8; ended = true }
    else extension_list steps file (extension_after file at) end (format_after file at format)))

-- Each extension takes 8 bytes or more, so as many steps as the area has bytes are enough.
unfoldable pub extensions_from : List ℕ → ℕ → ℕ → Option Place → ExtensionList
extensions_from file at end format = extension_list end file at end format

-- the area ends at the backing name where one is present, and else with the header's cluster
abbrev pub area_end : List ℕ → ℕ
area_end file =
    option_map_or (λ (name : Place). name.at) (name_place_of file)
    (cluster_size (cluster_bits_of file))

-- the extensions of a file
unfoldable pub extensions_of : List ℕ → ExtensionList
extensions_of file = extensions_from file (header_length_of file) (area_end file) None

-- the whole header
unfoldable pub header_of : List ℕ → Header
header_of file = record {
  size = size_of file;
  cluster_bits = cluster_bits_of file;
  l1_size = l1_size_of file;
  l1_offset = l1_offset_of file;
  ref_offset = refcount_table_offset_of file;
  ref_clusters = refcount_table_clusters_of file;
  refcount_order = refcount_order_of file;
  header_length = header_length_of file;
  nb_snaps = nb_snapshots_of file;
  snaps_offset = snapshots_offset_of file;
  compat = compatible_of file;
  autoclear = autoclear_of file;
  name = name_place_of file;
  format = (extensions_of file).format;
  ext_end = (extensions_of file).end;
  ended = (extensions_of file).ended;
}

-- What is refused, in the order of the answers. `len` is the file's length.

-- the first of a list of refusals
abbrev pub first : {R : Type 0} → List (Option R) → Option R
first [] = None
first (None ∷ rest) = first rest
first (Some r ∷ rest) = Some r

abbrev pub refused_where : {R : Type 0} → Bool → R → Option R
refused_where test r = if test then Some r else None

-- the file isn't an image of version 3, or its header doesn't lie within it
unfoldable pub format_refusal : List ℕ → ℕ → Option HeaderStop
format_refusal file len = first (
    refused_where (not (magic_of file == 0x514649fb)) Magic
    ∷ refused_where (not (version_of file == 3)) Version
    ∷ refused_where
    (nat_lt (header_length_of file) MIN_HEADER_LENGTH || nat_lt len (header_length_of file)) Short
    ∷ [])

-- the shapes that are supported
abbrev pub supports_cluster_bits : ℕ → Bool
supports_cluster_bits cluster_bits = cluster_bits == 16

abbrev pub supports_refcount_order : ℕ → Bool
supports_refcount_order refcount_order = refcount_order == 4

-- the image has a shape or a feature that isn't supported; of several incompatible bits the lowest is named
unfoldable pub profile_refusal : List ℕ → Option HeaderStop
profile_refusal file = first (
    refused_where (not (supports_cluster_bits (cluster_bits_of file))) ClusterBits
    ∷ refused_where (not (supports_refcount_order (refcount_order_of file))) RefcountOrder
    ∷ refused_where (not (incompatible_of file == 0))
    (Feature (trailing_zeros w64 (incompatible_of file)))
    ∷ refused_where (not (crypt_method_of file == 0)) Crypt
    ∷ refused_where (not (nb_snapshots_of file == 0)) Snapshots
    ∷ [])

-- a name may have at most 1,023 bytes, begins behind the header, lies in its cluster and is UTF-8
abbrev pub is_bad_name : List ℕ → Place → Bool
is_bad_name file name =
    nat_lt MAX_NAME_LENGTH name.len
    || nat_lt name.at (header_length_of file)
    || nat_lt (cluster_size (cluster_bits_of file)) (name.at + name.len)
    || not (is_utf8 (place_bytes file name.at name.len))

unfoldable pub name_refusal : List ℕ → Option HeaderStop
name_refusal file =
    refused_where (option_map_or (is_bad_name file) (name_place_of file) false) BackingName

-- the header ends past its cluster, or an extension past its area
unfoldable pub extension_refusal : List ℕ → Option HeaderStop
extension_refusal file = first (
    refused_where (nat_lt (cluster_size (cluster_bits_of file)) (header_length_of file)) Extension
    ∷ refused_where (extensions_of file).overruns Extension
    ∷ [])

-- a limit is passed
unfoldable pub size_refusal : List ℕ → ℕ → Option HeaderStop
size_refusal file len = let c = cluster_size (cluster_bits_of file) in first (
    refused_where (nat_lt MAX_DISK_SIZE (size_of file)) TooLarge
    ∷ refused_where (nat_lt MAX_GUEST_CLUSTERS (clusters_for c (size_of file))) TooLarge
    ∷ refused_where (nat_lt MAX_FILE_CLUSTERS (clusters_for c len)) TooLarge
    ∷ refused_where (nat_lt MAX_L1_SIZE (l1_size_of file)) TooLarge
    ∷ refused_where (nat_lt MAX_REFCOUNT_TABLE_CLUSTERS (refcount_table_clusters_of file)) TooLarge
    ∷ [])

-- the header's refusals: where the fields aren't all there, that alone is said
unfoldable pub header_refusal : List ℕ → ℕ → Option HeaderStop
header_refusal file len = first (
    refused_where (nat_lt len MIN_HEADER_LENGTH) Short
    ∷ format_refusal file len
    ∷ profile_refusal file
    ∷ name_refusal file
    ∷ extension_refusal file
    ∷ size_refusal file len
    ∷ [])

-- a place begins and ends between two others
pub record LiesWithin (from to : ℕ) (place : Place) : Type 0 where
  pub begins : from ≤ place.at
  pub ends : place.at + place.len ≤ to

-- what an accepted header of a file of `len` bytes keeps within
pub record IsWithinLimits (h : Header) (len : ℕ) : Type 0 where
  pub cluster_bits : h.cluster_bits ≡ 16
  pub refcount_order : h.refcount_order ≡ 4
  pub header_whole : MIN_HEADER_LENGTH ≤ h.header_length
  pub header_in_file : h.header_length ≤ len
  pub header_in_cluster : h.header_length ≤ cluster_size h.cluster_bits
  pub no_snapshots : h.nb_snaps ≡ 0
  pub name : IfSome h.name
      (λ name. LiesWithin h.header_length (cluster_size h.cluster_bits) name
      × (name.len ≤ MAX_NAME_LENGTH))
  pub format : IfSome h.format (LiesWithin h.header_length (cluster_size h.cluster_bits))
  pub list : h.ext_end ≤ cluster_size h.cluster_bits
  pub disk : h.size ≤ MAX_DISK_SIZE
  pub guest_clusters : clusters_for (cluster_size h.cluster_bits) h.size ≤ MAX_GUEST_CLUSTERS
  pub file_clusters : clusters_for (cluster_size h.cluster_bits) len ≤ MAX_FILE_CLUSTERS
  pub l1_size : h.l1_size ≤ MAX_L1_SIZE
  pub refcount_table : h.ref_clusters ≤ MAX_REFCOUNT_TABLE_CLUSTERS

-- a header that reading can give for a file of `len` bytes
abbrev pub CanBeRead : Header → ℕ → Type 0
CanBeRead h len = (file : List ℕ) × (header_refusal file len ≡ None) × (header_of file ≡ h)

-- the refusal in an answer
abbrev pub refusal_in : {X R : Type 0} → Result X R → Option R
refusal_in (Ok x) = None
refusal_in (Err r) = Some r
