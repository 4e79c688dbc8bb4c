-- What loading refuses, and what it keeps.
use Rattle.std.specs.Prelude.{◌≡◌, ◌≢◌, ◌⊎◌, ℕ, ◌*◌, ◌<◌, ◌==◌, if◌then◌else◌, true, false, List, [], ◌∷◌, length, take, drop, slice_index, slice_index_or, Option, None, Some, Result, Ok, Err}
use Rattle.std.specs.Option.{option_map}
use Rattle.blk_base.specs.Files.{IfTold}
use Rattle.blk_base.specs.declared.device.DeviceCall.{DeviceCall}
use Rattle.blk_base.specs.declared.device.DeviceCall.TheVariants as calls
use Rattle.q2_format.specs.Bytes.{CanStandAt, words_at}
use Rattle.q2_format.specs.Sizes.{cluster_size, entries_in_cluster}
use Rattle.q2_format.specs.Entry.{host_offset, has_reserved_in_l1}
use Rattle.q2_format.specs.Header.{first}
use Rattle.q2_format.specs.Tables.{Tree}
use Rattle.q2_format.specs.References.{own_offset}
use Rattle.q2_format.specs.Sound.{is_misplaced, bad_l1_table, bad_l2_table, bad_host, reserved_in_l1, reserved_in_l2, compressed_cluster}
use Rattle.q2_format.specs.declared.header.Header.{Header}
use Rattle.q2_tables.specs.Kept.{KeptTables, IsTreeOf, is_plain}
use Rattle.q2_tables.specs.Words.{AreUnnamedZero, IsReadOfTable, misplaced_table}
use Rattle.q2_tables.specs.declared.stop.TablesStop.{TablesStop}
use Rattle.q2_tables.specs.declared.stop.TablesStop.TheVariants.{Offset, ReservedInL1, ReservedInL2, Compressed, Io, NoMemory}

-- what is refused of a tree in a file of `len` bytes, in the order in which it is looked at
unfoldable pub load_refusal : Header → ℕ → Tree → Option TablesStop
load_refusal h len tree = let c = cluster_size h.cluster_bits in first (
    option_map Offset (bad_l1_table h len)
    ∷ option_map Offset (bad_l2_table c len tree)
    ∷ option_map Offset (bad_host c len tree)
    ∷ option_map ReservedInL1 (reserved_in_l1 tree)
    ∷ option_map (λ entry. ReservedInL2 entry.0 entry.1) (reserved_in_l2 c tree)
    ∷ option_map Compressed (compressed_cluster c tree)
    ∷ [])

-- the answers that speak of the tables
abbrev pub IsTableRefusal : TablesStop → Type 0
IsTableRefusal (Offset offset) = Unit {0}
IsTableRefusal (ReservedInL1 index) = Unit {0}
IsTableRefusal (ReservedInL2 table index) = Unit {0}
IsTableRefusal (Compressed cluster) = Unit {0}
IsTableRefusal (Io count) = ⊥
IsTableRefusal NoMemory = ⊥

-- what the loading of a tree answers
abbrev pub Loads : Header → ℕ → Tree → Result KeptTables TablesStop → Type 0
Loads h len tree (Ok kept) =
    (load_refusal h len tree ≡ None) × IsTreeOf (cluster_size h.cluster_bits) kept tree
Loads h len tree (Err stop) = IsTableRefusal stop → load_refusal h len tree ≡ Some stop

-- an entry of the L1 table that names no L2 table has no words of one, and each other as many as a table has
abbrev pub HasRows : ℕ → Tree → Type 0
HasRows entries tree = (i : ℕ) → i < length tree.l1
    → length (slice_index_or tree.l2 i [])
    ≡ (if host_offset (slice_index tree.l1 i) == 0 then 0 else entries)

-- a file of `len` bytes can have each table of a tree at its place
pub record TreeStands (h : Header) (len : ℕ) (tree : Tree) : Type 0 where
  pub l1 : CanStandAt len h.l1_offset tree.l1
  pub rows : (i : ℕ) → i < length tree.l1 → host_offset (slice_index tree.l1 i) ≢ 0
      → CanStandAt len (host_offset (slice_index tree.l1 i)) (slice_index_or tree.l2 i [])

-- what is answered of this tree of a header
pub record AnswersTree (h : Header) (len : ℕ) (result : Result KeptTables TablesStop) (tree : Tree)
    : Type 0 where
  pub entries : length tree.l1 ≡ h.l1_size
  pub rows : HasRows (entries_in_cluster (cluster_size h.cluster_bits)) tree
  pub stands : TreeStands h len tree
  pub loads : Loads h len tree result

-- the fault that a stop tells, and an answer
abbrev pub fault_in_tables : TablesStop → Option ℕ
fault_in_tables (Io count) = Some count
fault_in_tables (Offset offset) = None
fault_in_tables (ReservedInL1 index) = None
fault_in_tables (ReservedInL2 table index) = None
fault_in_tables (Compressed cluster) = None
fault_in_tables NoMemory = None

abbrev pub fault_of_tables : {A : Type 0} → Result A TablesStop → Option ℕ
fault_of_tables (Ok tables) = None
fault_of_tables (Err stop) = fault_in_tables stop

-- so it can, of the words of all L2 tables one behind the other, each with so many entries
abbrev pub RowsStand : ℕ → ℕ → List ℕ → List ℕ → Type 0
RowsStand len entries l1 words = (i : ℕ) → i < length l1 → host_offset (slice_index l1 i) ≢ 0
    → CanStandAt len (host_offset (slice_index l1 i)) (take entries (drop (i * entries) words))

-- what is kept of a file of `len` bytes, whether or not it tells its bytes
pub record IsLoaded (h : Header) (len : ℕ) (kept : KeptTables) : Type 0 where
  pub c : kept.c ≡ cluster_size h.cluster_bits
  pub l1_offset : kept.l1_offset ≡ h.l1_offset
  pub l1_size : length kept.l1 ≡ h.l1_size
  pub entries : length kept.words ≡ length kept.l1 * entries_in_cluster kept.c
  pub tables : (i : ℕ) → i < length kept.l1
      → is_misplaced kept.c len (host_offset (slice_index kept.l1 i)) ≡ false
  pub hosts : (cluster : ℕ) → cluster < length kept.words
      → is_misplaced kept.c len (own_offset (slice_index kept.words cluster)) ≡ false
  pub l1_stands : CanStandAt len h.l1_offset kept.l1
  pub rows_stand : RowsStand len (entries_in_cluster kept.c) kept.l1 kept.words
  -- a cluster without an L2 table has no word
  pub unnamed : AreUnnamedZero (entries_in_cluster kept.c) kept.l1 kept.words (length kept.words)
  pub unreserved : (i : ℕ) → i < length kept.l1 → has_reserved_in_l1 (slice_index kept.l1 i) ≡ false
  pub plain : (cluster : ℕ) → cluster < length kept.words
      → is_plain (slice_index kept.words cluster) ≡ true

-- Which read fails, in a file of `len` bytes.

-- behind an L1 table whose entries nothing refuses, and that is the file's, where it is told
pub record IsCallBehindL1 (h : Header) (len : ℕ) (content : Option (List ℕ))
    (call : DeviceCall) : Type 0 where
  pub l1 : List ℕ
  pub entries : length l1 ≡ h.l1_size
  pub stands : CanStandAt len h.l1_offset l1
  pub told : IfTold content (λ file. l1 ≡ words_at file h.l1_offset h.l1_size)
  pub placed : misplaced_table (cluster_size h.cluster_bits) len l1 ≡ None
  pub read : IsReadOfTable (cluster_size h.cluster_bits) l1 call

-- that of the L1 table, which lies in its place, or of an L2 table
abbrev pub IsTablesCall : Header → ℕ → Option (List ℕ) → DeviceCall → Type 0
IsTablesCall h len content call =
    (bad_l1_table h len ≡ None)
    × ((call ≡ calls.Read h.l1_offset (8 * h.l1_size)) ⊎ IsCallBehindL1 h len content call)
