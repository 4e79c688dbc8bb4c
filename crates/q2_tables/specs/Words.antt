-- What the steps of loading do, in lists of words.
use Rattle.std.specs.Prelude.{◌≡◌, ◌≢◌, ℕ, ◌*◌, ◌/◌, ◌%◌, ◌<◌, not, ◌&&◌, List, [], ◌∷◌, length, position, slice_index, Option}
use Rattle.std.specs.Option.{option_map}
use Rattle.blk_base.specs.declared.device.DeviceCall.{DeviceCall}
use Rattle.blk_base.specs.declared.device.DeviceCall.TheVariants as calls
use Rattle.q2_format.specs.Sizes.{entries_in_cluster}
use Rattle.q2_format.specs.Entry.{host_offset, is_compressed, has_reserved_in_l1, has_reserved_in_l2}
use Rattle.q2_format.specs.Header.{first}
use Rattle.q2_format.specs.References.{own_offset}
use Rattle.q2_format.specs.Sound.{is_misplaced}
use Rattle.q2_format.specs.Tables.{l2_table}
use Rattle.q2_tables.specs.declared.stop.TablesStop.{TablesStop}
use Rattle.q2_tables.specs.declared.stop.TablesStop.TheVariants.{Offset, ReservedInL1, ReservedInL2, Compressed, Io, NoMemory}

-- the words are those of the L2 tables that the entries of an L1 table name, one behind the other
pub record AreTablesOf (file : List ℕ) (c : ℕ) (l1 words : List ℕ) : Type 0 where
  pub each : (k : ℕ) → k < length l1 * entries_in_cluster c
      → slice_index words k
      ≡ slice_index (l2_table file c (slice_index l1 (k / entries_in_cluster c)))
      (k % entries_in_cluster c)

-- Of the first words, below a number, those under an entry of an L1 table that names no table are 0, where each table has so
-- many.
abbrev pub AreUnnamedZero : ℕ → List ℕ → List ℕ → ℕ → Type 0
AreUnnamedZero entries l1 words below = (k : ℕ) → k < below
    → host_offset (slice_index l1 (k / entries)) ≡ 0 → slice_index words k ≡ 0

-- the read of an L2 table of `c` bytes that an entry of an L1 table names
abbrev pub IsReadOfTable : ℕ → List ℕ → DeviceCall → Type 0
IsReadOfTable c l1 call =
    (i : ℕ) × (i < length l1) × (host_offset (slice_index l1 i) ≢ 0)
    × (call ≡ calls.Read (host_offset (slice_index l1 i)) c)

-- reading stops at a fault, or for want of memory
abbrev pub IsTablesReadStop : TablesStop → Type 0
IsTablesReadStop (Io count) = Unit {0}
IsTablesReadStop (Offset offset) = ⊥
IsTablesReadStop (ReservedInL1 index) = ⊥
IsTablesReadStop (ReservedInL2 table index) = ⊥
IsTablesReadStop (Compressed cluster) = ⊥
IsTablesReadStop NoMemory = Unit {0}

-- What is refused of the words, by the first that is.

unfoldable pub misplaced_table : ℕ → ℕ → List ℕ → Option TablesStop
misplaced_table c len l1 =
    option_map (λ i. Offset (host_offset (slice_index l1 i)))
    (position (λ word. is_misplaced c len (host_offset word)) l1)

unfoldable pub misplaced_host : ℕ → ℕ → List ℕ → Option TablesStop
misplaced_host c len words =
    option_map (λ i. Offset (own_offset (slice_index words i)))
    (position (λ word. is_misplaced c len (own_offset word)) words)

unfoldable pub reserved_in_table : List ℕ → Option TablesStop
reserved_in_table l1 = option_map ReservedInL1 (position has_reserved_in_l1 l1)

unfoldable pub reserved_in_words : ℕ → List ℕ → List ℕ → Option TablesStop
reserved_in_words entries l1 words =
    option_map (λ i. ReservedInL2 (host_offset (slice_index l1 (i / entries))) (i % entries))
    (position (λ word. not (is_compressed word) && has_reserved_in_l2 word) words)

unfoldable pub compressed_in_words : List ℕ → Option TablesStop
compressed_in_words words = option_map Compressed (position is_compressed words)

-- all but the first, in their order
unfoldable pub refused_words : ℕ → ℕ → List ℕ → List ℕ → Option TablesStop
refused_words c len l1 words = first (
    misplaced_host c len words
    ∷ reserved_in_table l1
    ∷ reserved_in_words (entries_in_cluster c) l1 words
    ∷ compressed_in_words words
    ∷ [])
