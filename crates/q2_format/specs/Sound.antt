-- When an image is refused, and when it is sound: where nothing refuses it.
use Rattle.std.specs.Prelude.{◌≡◌, ℕ, ◌*◌, ◌/◌, ◌%◌, ◌≤◌, Bool, not, ◌==◌, ◌||◌, ◌&&◌, nat_lt, List, [], ◌∷◌, length, slice_index, Option, None}
use Rattle.std.specs.Option.{option_map}
use Rattle.std.specs.List.{find, range_with_len}
use Rattle.q2_format.specs.Sizes.{cluster_size, entries_in_cluster, l1_entries_for}
use Rattle.q2_format.specs.Entry.{host_offset, block_offset, is_compressed, has_reserved_in_l1, has_reserved_in_l2, has_reserved_in_refcount_table}
use Rattle.q2_format.specs.Header.{first, refused_where, header_of, header_refusal}
use Rattle.q2_format.specs.Tables.{Tree, active_tree, l2_word_of, refcount_table, refcount_of}
use Rattle.q2_format.specs.References.{own_offset, uses, cluster_bound}
use Rattle.q2_format.specs.Renamed.{needs_ending, next_extension}
use Rattle.q2_format.specs.declared.header.Header.{Header}
use Rattle.q2_format.specs.declared.header.HeaderStop.{HeaderStop}

-- why an image is refused
pub data Refusal : Type 0 where
  -- by its header
  InHeader : HeaderStop → Refusal
  -- an offset isn't a multiple of the cluster size or isn't below the file's length, or its table is too small
  Offset : ℕ → Refusal
  -- a reserved bit is set: the byte offset of the table, and the index of the entry in it
  Reserved : ℕ → ℕ → Refusal
  -- this guest cluster is compressed, and none below it
  Compressed : ℕ → Refusal
  -- this cluster of the file is named twice, and none below it
  Overlap : ℕ → Refusal
  -- this cluster of the file is named and has refcount 0, and none below it
  Refcount : ℕ → Refusal
  -- the header has no room for another backing name
  HeaderFull : Refusal

-- the least number below n that passes a test
abbrev pub lowest : (ℕ → Bool) → ℕ → Option ℕ
lowest test n = find test (range_with_len 0 n)

-- an offset isn't a multiple of the cluster size, or isn't below the file's length
abbrev pub is_misplaced : ℕ → ℕ → ℕ → Bool
is_misplaced c len offset = not (offset % c == 0) || not (nat_lt offset len)

-- Offsets, in the order in which they are looked at. Each gives the first that is refused.

unfoldable pub bad_refcount_table : Header → ℕ → Option ℕ
bad_refcount_table h len =
    refused_where
    (h.ref_clusters == 0 || is_misplaced (cluster_size h.cluster_bits) len h.ref_offset)
    h.ref_offset

unfoldable pub bad_l1_table : Header → ℕ → Option ℕ
bad_l1_table h len = let c = cluster_size h.cluster_bits in
    refused_where (nat_lt h.l1_size (l1_entries_for c h.size) || is_misplaced c len h.l1_offset)
    h.l1_offset

-- by the table's index
unfoldable pub bad_block : ℕ → ℕ → List ℕ → Option ℕ
bad_block c len table =
    option_map (λ i. block_offset (slice_index table i))
    (lowest (λ i. is_misplaced c len (block_offset (slice_index table i))) (length table))

-- by the L1 index
unfoldable pub bad_l2_table : ℕ → ℕ → Tree → Option ℕ
bad_l2_table c len tree =
    option_map (λ i. host_offset (slice_index tree.l1 i))
    (lowest (λ i. is_misplaced c len (host_offset (slice_index tree.l1 i))) (length tree.l1))

-- the guest clusters of a tree's entries, those past the disk's end among them
abbrev pub guest_clusters : ℕ → Tree → ℕ
guest_clusters c tree = length tree.l1 * entries_in_cluster c

-- by the guest cluster
unfoldable pub bad_host : ℕ → ℕ → Tree → Option ℕ
bad_host c len tree =
    option_map (λ cluster. own_offset (l2_word_of tree c cluster))
    (lowest (λ cluster. is_misplaced c len (own_offset (l2_word_of tree c cluster)))
    (guest_clusters c tree))

-- Reserved bits: the index of the first entry that has one, of an L2 table behind the table's offset.

unfoldable pub reserved_in_l1 : Tree → Option ℕ
reserved_in_l1 tree = lowest (λ i. has_reserved_in_l1 (slice_index tree.l1 i)) (length tree.l1)

unfoldable pub reserved_in_refcount_table : List ℕ → Option ℕ
reserved_in_refcount_table table =
    lowest (λ i. has_reserved_in_refcount_table (slice_index table i)) (length table)

unfoldable pub reserved_in_l2 : ℕ → Tree → Option (ℕ × ℕ)
reserved_in_l2 c tree =
    option_map (λ cluster. (
      host_offset (slice_index tree.l1 (cluster / entries_in_cluster c)),
      cluster % entries_in_cluster c,
    ))
    (lowest (λ cluster. not (is_compressed (l2_word_of tree c cluster))
    && has_reserved_in_l2 (l2_word_of tree c cluster)) (guest_clusters c tree))

-- the lowest guest cluster that is compressed
unfoldable pub compressed_cluster : ℕ → Tree → Option ℕ
compressed_cluster c tree =
    lowest (λ cluster. is_compressed (l2_word_of tree c cluster)) (guest_clusters c tree)

-- the lowest cluster that is named twice
unfoldable pub overlap : List ℕ → Header → ℕ → Option ℕ
overlap file h len = lowest (λ cluster. nat_lt 1 (uses file h cluster)) (cluster_bound h len)

-- the lowest cluster that is named and has refcount 0
unfoldable pub uncounted : List ℕ → Header → ℕ → Option ℕ
uncounted file h len =
    lowest (λ cluster. not (uses file h cluster == 0) && (refcount_of file h cluster == 0))
    (cluster_bound h len)

-- The list of extensions ends behind the middle of its cluster, where a new backing name goes; or it ends at
-- a backing name without an ending extension, and there is no room for one in the file's first sector.
abbrev pub is_header_full : Header → Bool
is_header_full h =
    nat_lt (cluster_size h.cluster_bits / 2) h.ext_end
    || (needs_ending h && nat_lt 504 (next_extension h))

-- the refusals behind the header, in their order
unfoldable pub table_refusals : List ℕ → Header → ℕ → List (Option Refusal)
table_refusals file h len =
    let c = cluster_size h.cluster_bits in
    let table = refcount_table file h in
    let tree = active_tree file h in
    option_map Offset (bad_refcount_table h len)
    ∷ option_map Offset (bad_l1_table h len)
    ∷ option_map Offset (bad_block c len table)
    ∷ option_map Offset (bad_l2_table c len tree)
    ∷ option_map Offset (bad_host c len tree)
    ∷ option_map (Reserved h.l1_offset) (reserved_in_l1 tree)
    ∷ option_map (Reserved h.ref_offset) (reserved_in_refcount_table table)
    ∷ option_map (λ entry. Reserved entry.0 entry.1) (reserved_in_l2 c tree)
    ∷ option_map Compressed (compressed_cluster c tree)
    ∷ option_map Overlap (overlap file h len)
    ∷ option_map Refcount (uncounted file h len)
    ∷ refused_where (is_header_full h) HeaderFull
    ∷ []

-- the first refusal of an image
unfoldable pub image_refusal : List ℕ → Option Refusal
image_refusal file = first (
    option_map InHeader (header_refusal file (length file))
    ∷ first (table_refusals file (header_of file) (length file))
    ∷ [])

-- nothing refuses the image
abbrev pub IsSound : List ℕ → Type 0
IsSound file = image_refusal file ≡ None

-- An image's clusters are named at most once, counted at least as often as they are named, and none is named
-- that neither the file has nor a table that begins in it.
pub record IsConsistent (file : List ℕ) (h : Header) (len : ℕ) : Type 0 where
  pub within : (cluster : ℕ) → cluster_bound h len ≤ cluster → uses file h cluster ≡ 0
  pub once : (cluster : ℕ) → uses file h cluster ≤ 1
  pub counted : (cluster : ℕ) → uses file h cluster ≤ refcount_of file h cluster
