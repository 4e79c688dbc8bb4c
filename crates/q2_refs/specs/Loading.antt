-- Reading an image's refcounts: what is refused, and why each answer comes.
use Rattle.std.specs.Prelude.{◌≡◌, ◌≢◌, ℕ, ◌*◌, ◌≤◌, ◌<◌, ⊤, List, [], ◌∷◌, length, slice_index, Option, Some, None, Result, Ok, Err, IfOk}
use Rattle.std.specs.Option.{option_map}
use Rattle.blk_base.specs.declared.device.DeviceCall.{DeviceCall}
use Rattle.blk_base.specs.declared.device.DeviceCall.TheVariants as calls
use Rattle.q2_format.specs.Bytes.{CanStandAt}
use Rattle.q2_format.specs.Entry.{block_offset}
use Rattle.q2_format.specs.Sizes.{cluster_size, entries_in_cluster, block_entries}
use Rattle.q2_format.specs.Header.{first}
use Rattle.q2_format.specs.Tables.{refcount_of}
use Rattle.q2_format.specs.Sound.{bad_refcount_table, bad_block, reserved_in_refcount_table}
use Rattle.q2_format.specs.declared.header.Header.{Header}
use Rattle.q2_format.specs.declared.header.TheConstants.{MAX_REFCOUNT_TABLE_CLUSTERS}
use Rattle.q2_refs.specs.declared.stop.RefsStop.{RefsStop}
use Rattle.q2_refs.specs.declared.stop.RefsStop.TheVariants.{Offset, Reserved, Io, NoMemory}

-- the words of a header's refcount table
abbrev pub table_entries : Header → ℕ
table_entries h = h.ref_clusters * entries_in_cluster (cluster_size h.cluster_bits)

-- the clusters that they speak of
abbrev pub table_reach : Header → ℕ
table_reach h = table_entries h * block_entries (cluster_size h.cluster_bits) h.refcount_order

-- what is refused of a table's words
abbrev pub words_refusal : ℕ → ℕ → List ℕ → Option RefsStop
words_refusal c len table = first (
    option_map Offset (bad_block c len table)
    ∷ option_map Reserved (reserved_in_refcount_table table)
    ∷ [])

-- What is refused of a header's refcount table that has these words, in a file of `len` bytes, in this order:
-- the table's place, its blocks' places, and reserved bits.
unfoldable pub refcounts_refusal : Header → ℕ → List ℕ → Option RefsStop
refcounts_refusal h len table = first (
    option_map Offset (bad_refcount_table h len)
    ∷ option_map Offset (bad_block (cluster_size h.cluster_bits) len table)
    ∷ option_map Reserved (reserved_in_refcount_table table)
    ∷ [])

-- an answer by content is the refusal; a failed read and want of memory say nothing of it
abbrev pub RefusedBy : {A : Type 0} → Result A RefsStop → Option RefsStop → Type 0
RefusedBy (Ok refs) refusal = refusal ≡ None
RefusedBy (Err (Offset at)) refusal = refusal ≡ Some (Offset at)
RefusedBy (Err (Reserved index)) refusal = refusal ≡ Some (Reserved index)
RefusedBy (Err (Io count)) refusal = ⊤
RefusedBy (Err NoMemory) refusal = ⊤

-- What is answered of these words of a header's refcount table, which a file of `len` bytes can have: their first refusal, or
-- what has them as its words.
pub record AnswersWords {A : Type 0} (h : Header) (len : ℕ) (words_of : A → List ℕ)
    (result : Result A RefsStop) (words : List ℕ) : Type 0 where
  pub entries : length words ≡ table_entries h
  pub stands : CanStandAt len h.ref_offset words
  pub refused : RefusedBy result (refcounts_refusal h len words)
  pub kept : IfOk result (λ a. words_of a ≡ words)

-- the fault that a stop tells, and an answer
abbrev pub fault_in_refs : RefsStop → Option ℕ
fault_in_refs (Offset at) = None
fault_in_refs (Reserved index) = None
fault_in_refs (Io count) = Some count
fault_in_refs NoMemory = None

abbrev pub fault_of_refs : {A : Type 0} → Result A RefsStop → Option ℕ
fault_of_refs (Ok refs) = None
fault_of_refs (Err stop) = fault_in_refs stop

-- a call that reads and decodes answers these alone
abbrev pub IsRefsReadStop : RefsStop → Type 0
IsRefsReadStop (Offset at) = ⊥
IsRefsReadStop (Reserved index) = ⊥
IsRefsReadStop (Io count) = ⊤
IsRefsReadStop NoMemory = ⊤

-- a header of the shape that is supported
pub record HasShape (h : Header) : Type 0 where
  pub cluster_bits : h.cluster_bits ≡ 16
  pub refcount_order : h.refcount_order ≡ 4
  pub table : h.ref_clusters ≤ MAX_REFCOUNT_TABLE_CLUSTERS

-- the counts from one cluster to another are those of a file
abbrev pub AreCounts : List ℕ → Header → List ℕ → ℕ → ℕ → Type 0
AreCounts file h counts from to =
    (k : ℕ) → from ≤ k → k < to → k < length counts → slice_index counts k ≡ refcount_of file h k

-- the counts from one cluster on are 0
abbrev pub AreZeroFrom : List ℕ → ℕ → Type 0
AreZeroFrom counts from = (k : ℕ) → from ≤ k → slice_index counts k ≡ 0

-- Which read fails.

-- that of a header's refcount table
abbrev pub table_call : Header → DeviceCall
table_call h = calls.Read h.ref_offset (8 * table_entries h)

-- it is made where the table lies in its place, in a file of `len` bytes
abbrev pub IsTableCall : Header → ℕ → DeviceCall → Type 0
IsTableCall h len call = (bad_refcount_table h len ≡ None) × (call ≡ table_call h)

-- that of a block which these words name, and which has one of the first `reach` refcounts
pub record IsBlockCall (h : Header) (reach : ℕ) (table : List ℕ) (call : DeviceCall) : Type 0 where
  pub i : ℕ
  pub within : i < length table
  pub counts : i * block_entries (cluster_size h.cluster_bits) h.refcount_order < reach
  pub there : block_offset (slice_index table i) ≢ 0
  pub is : call ≡ calls.Read (block_offset (slice_index table i)) (cluster_size h.cluster_bits)
