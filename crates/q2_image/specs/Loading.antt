-- Loading refcounts and tables: which refusal comes first, and what is loaded.
use Rattle.std.specs.Prelude.{◌≡◌, ℕ, max, Option, Some, None, Result, Ok, Err, IfOk, List, [], ◌∷◌, length}
use Rattle.std.specs.Option.{option_map}
use Rattle.q2_format.specs.Sizes.{cluster_size, entries_in_cluster}
use Rattle.q2_format.specs.Bytes.{CanStandAt}
use Rattle.q2_format.specs.Header.{first, header_of}
use Rattle.q2_format.specs.Tables.{Tree, active_tree, refcount_table}
use Rattle.q2_format.specs.References.{cluster_bound, reach_of}
use Rattle.q2_format.specs.Sound.{Refusal, bad_block, bad_l2_table, bad_host, reserved_in_l1, reserved_in_l2, reserved_in_refcount_table, compressed_cluster}
use Rattle.q2_format.specs.Sound as sound
use Rattle.q2_format.specs.declared.header.Header.{Header}
use Rattle.q2_refs.specs.Kept.{KeptRefs, IsShapedBy, AreWholeClusters, BeginBelow, CountsStand}
use Rattle.q2_refs.specs.Loading.{table_entries, refcounts_refusal}
use Rattle.q2_tables.specs.Kept.{IsTreeOf}
use Rattle.q2_tables.specs.Kept as tables
use Rattle.q2_tables.specs.Loading.{HasRows, TreeStands}
use Rattle.q2_image.specs.Opening.{Judges, Names, header_stops}
use Rattle.q2_image.specs.declared.counting.RefTable.{RefTable}
use Rattle.q2_image.specs.declared.counting.RefTable.TheVariants.{Read, Reserved}
use Rattle.q2_image.specs.declared.stop.ImageStop.{ImageStop}

-- the refusals of the words of all tables, in their order
unfoldable pub table_stops : Header → ℕ → List ℕ → Tree → Option Refusal
table_stops h len table tree = let c = cluster_size h.cluster_bits in first (
    option_map sound.Offset (bad_block c len table)
    ∷ option_map sound.Offset (bad_l2_table c len tree)
    ∷ option_map sound.Offset (bad_host c len tree)
    ∷ option_map (sound.Reserved h.l1_offset) (reserved_in_l1 tree)
    ∷ option_map (sound.Reserved h.ref_offset) (reserved_in_refcount_table table)
    ∷ option_map (λ entry. sound.Reserved entry.0 entry.1) (reserved_in_l2 c tree)
    ∷ option_map sound.Compressed (compressed_cluster c tree)
    ∷ [])

-- How many clusters' refcounts are loaded: those up to the reach, and those that a table at the file's end may take.
abbrev pub counts_loaded : Header → ℕ → ℕ
counts_loaded h len = max (cluster_bound h len) (reach_of h len)

-- the entry of the refcount table in which a reserved bit was found
abbrev pub reserved_entry : RefTable → Option ℕ
reserved_entry (Read words) = None
reserved_entry (Reserved index) = Some index

-- these are the words that were read
abbrev pub IsTableOf : List ℕ → RefTable → Type 0
IsTableOf words (Read kept) = kept.items ≡ words
IsTableOf words (Reserved index) = Unit {0}

-- what these words of a refcount table say of its reserved bits, where all its blocks lie in their places
pub record TableTells (h : Header) (len : ℕ) (words : List ℕ) (index : Option ℕ) : Type 0 where
  pub block : bad_block (cluster_size h.cluster_bits) len words ≡ None
  pub reserved : reserved_in_refcount_table words ≡ index

abbrev pub TellsTable : Header → ℕ → List ℕ → Result RefTable ImageStop → Type 0
TellsTable h len words (Ok table) =
    TableTells h len words (reserved_entry table) × IsTableOf words table
TellsTable h len words (Err stop) =
    Names (option_map sound.Offset (bad_block (cluster_size h.cluster_bits) len words)) stop

-- what is answered of these words of a header's refcount table, which lies in its place
pub record AnswersTable (h : Header) (len : ℕ) (result : Result RefTable ImageStop)
    (words : List ℕ) : Type 0 where
  pub entries : length words ≡ table_entries h
  pub stands : CanStandAt len h.ref_offset words
  pub tells : TellsTable h len words result

-- the words of an image's tables
pub record ImageWords : Type 0 where
  pub table : List ℕ
  pub tree : Tree

abbrev pub words_in : Header → List ℕ → ImageWords
words_in h file = record { table = refcount_table file h; tree = active_tree file h }

-- as many as a header says, and such as a file of `len` bytes can have at their places
pub record CanBeWords (h : Header) (len : ℕ) (words : ImageWords) : Type 0 where
  pub table : length words.table ≡ table_entries h
  pub l1 : length words.tree.l1 ≡ h.l1_size
  pub rows : HasRows (entries_in_cluster (cluster_size h.cluster_bits)) words.tree
  pub table_stands : CanStandAt len h.ref_offset words.table
  pub tree_stands : TreeStands h len words.tree

-- the words of a refcount table that nothing refuses, whether or not the device tells its bytes
pub record IsTableRead (h : Header) (len : ℕ) (words : List ℕ) : Type 0 where
  pub accepted : refcounts_refusal h len words ≡ None
  pub entries : length words ≡ table_entries h
  pub stands : CanStandAt len h.ref_offset words

abbrev pub IsTableAnswer : Header → ℕ → RefTable → Type 0
IsTableAnswer h len (Read words) = IsTableRead h len words.items
IsTableAnswer h len (Reserved index) = Unit {0}

-- A file whose header and tables were read: none of their refusals holds, and the words are the file's.
pub record IsReadFrom (file : List ℕ) (h : Header) (table : List ℕ) (t : tables.KeptTables)
    : Type 0 where
  pub header : header_of file ≡ h
  pub headers : header_stops file (length file) ≡ None
  pub stops : table_stops h (length file) (refcount_table file h) (active_tree file h) ≡ None
  pub same : table ≡ refcount_table file h
  pub tree : IsTreeOf (cluster_size h.cluster_bits) t (active_tree file h)

-- what is answered of these words of a header's tables, which lie in their places
pub record AnswersTables {A : Type 0} (h : Header) (len : ℕ) (table_of : A → List ℕ)
    (tables_of : A → tables.KeptTables) (result : Result A ImageStop) (words : ImageWords) : Type 0
  where
    pub sizes : CanBeWords h len words
    pub judged : Judges (table_stops h len words.table words.tree) result
    pub table : IfOk result (λ a. table_of a ≡ words.table)
    pub tree : IfOk result
        (λ a. IsTreeOf (cluster_size h.cluster_bits) (tables_of a) words.tree)

-- the refcounts of a header, whether or not the device tells its bytes
pub record HasCounts (h : Header) (len count : ℕ) (refs : KeptRefs) : Type 0 where
  pub shape : IsShapedBy h refs
  pub table : length refs.table ≡ table_entries h
  pub reach : length refs.counts ≡ count
  pub blocks : AreWholeClusters (cluster_size h.cluster_bits) refs.table
  pub below : BeginBelow len refs.table
  pub stands : CountsStand None len refs
