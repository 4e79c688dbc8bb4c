-- Which read of an opening fails, in the order in which they are made.
use Rattle.std.specs.Prelude.{◌≡◌, ◌⊎◌, ℕ, ◌≤◌, List, Option, None}
use Rattle.blk_base.specs.Files.{IfTold}
use Rattle.blk_base.specs.declared.device.DeviceCall.{DeviceCall}
use Rattle.blk_base.specs.declared.device.DeviceCall.TheVariants as calls
use Rattle.q2_format.specs.Header.{CanBeRead, IsWithinLimits, header_of}
use Rattle.q2_format.specs.References.{cluster_bound}
use Rattle.q2_format.specs.Sizes.{cluster_size}
use Rattle.q2_format.specs.Sound.{bad_block}
use Rattle.q2_format.specs.Tables.{refcount_table}
use Rattle.q2_format.specs.declared.header.Header.{Header}
use Rattle.q2_format.specs.declared.header.TheConstants.{MIN_HEADER_LENGTH}
use Rattle.q2_refs.specs.Loading.{IsBlockCall, table_call}
use Rattle.q2_tables.specs.Kept as tables
use Rattle.q2_tables.specs.Loading.{IsLoaded, IsTablesCall}
use Rattle.q2_image.specs.Loading.{IsReadFrom, IsTableRead, counts_loaded}
use Rattle.q2_image.specs.Opening.{header_stops, overlap_stop, place_stops, uses_in}
use Rattle.q2_image.specs.declared.header.TheConstants.{CLUSTER}

-- that of the first cluster, of a file that is long enough for a header
abbrev pub IsFirstCall : ℕ → DeviceCall → Type 0
IsFirstCall len call = (MIN_HEADER_LENGTH ≤ len) × (call ≡ calls.Read 0 CLUSTER)

-- A header was read that nothing refuses, and whose two tables lie in their places. It is the file's, where that is told.
pub record IsHeaderRead (h : Header) (len : ℕ) (content : Option (List ℕ)) : Type 0 where
  pub limits : IsWithinLimits h len
  pub readable : CanBeRead h len
  pub places : place_stops h len ≡ None
  pub told : IfTold content (λ file. (header_stops file len ≡ None) × (header_of file ≡ h))

-- the refcount table names no block outside its place, where that is told
abbrev pub AreBlocksPlaced : Header → ℕ → Option (List ℕ) → Type 0
AreBlocksPlaced h len content =
    IfTold content
    (λ file. bad_block (cluster_size h.cluster_bits) len (refcount_table file h) ≡ None)

-- all tables were read, nothing of their words is refused, and no cluster is named twice
pub record AreTablesRead (h : Header) (len : ℕ) (content : Option (List ℕ))
    (table : List ℕ) : Type 0 where
  pub read : IsTableRead h len table
  pub tables : tables.KeptTables
  pub loaded : IsLoaded h len tables
  pub once : overlap_stop (uses_in h table tables.l1 tables.words) (cluster_bound h len) ≡ None
  pub told : IfTold content (λ file. IsReadFrom file h table tables)

-- that of the refcount table, of the L1 table or an L2 table, or at last of a refcount block
abbrev pub IsCallBehindHeader : Header → ℕ → Option (List ℕ) → DeviceCall → Type 0
IsCallBehindHeader h len content call =
    (call ≡ table_call h)
    ⊎ ((AreBlocksPlaced h len content × IsTablesCall h len content call)
    ⊎ ((table : List ℕ) × AreTablesRead h len content table
    × IsBlockCall h (counts_loaded h len) table call))

abbrev pub IsOpeningCall : ℕ → Option (List ℕ) → DeviceCall → Type 0
IsOpeningCall len content call =
    IsFirstCall len call
    ⊎ ((h : Header) × IsHeaderRead h len content × IsCallBehindHeader h len content call)
