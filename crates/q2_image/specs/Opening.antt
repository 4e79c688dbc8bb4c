-- Opening an image: what is refused, and why each answer comes.
use Rattle.std.specs.Prelude.{◌≡◌, ℕ, ◌+◌, ◌<◌, false, not, ◌==◌, ◌&&◌, nat_lt, length, slice_index, Option, Some, None, Result, Ok, Err, IfSome, List, [], ◌∷◌}
use Rattle.std.specs.Option.{option_map}
use Rattle.q2_format.specs.Sizes.{cluster_size}
use Rattle.q2_format.specs.Header.{first, refused_where, header_refusal}
use Rattle.q2_format.specs.Entry.{host_offset, block_offset}
use Rattle.q2_format.specs.References.{structure_uses, own_offset}
use Rattle.q2_format.specs.Sound.{Refusal, InHeader, bad_refcount_table, bad_l1_table, is_misplaced, lowest, is_header_full}
use Rattle.q2_format.specs.Sound as sound
use Rattle.q2_format.specs.declared.header.Header.{Header}
use Rattle.q2_image.specs.Seen.{times_named}
use Rattle.q2_image.specs.declared.seen.Naming.TheVariants.{Table, Own}
use Rattle.q2_image.specs.declared.stop.ImageStop.{ImageStop}
use Rattle.q2_image.specs.declared.stop.ImageStop.TheVariants.{Header as HeaderStops, Offset, Reserved, Compressed, Overlap, Refcount, HeaderFull, Io, NoMemory}

-- the refusal that a stop names; a failed call and want of memory name none
abbrev pub refusal_of : ImageStop → Option Refusal
refusal_of (HeaderStops stop) = Some (InHeader stop)
refusal_of (Offset offset) = Some (sound.Offset offset)
refusal_of (Reserved table index) = Some (sound.Reserved table index)
refusal_of (Compressed cluster) = Some (sound.Compressed cluster)
refusal_of (Overlap cluster) = Some (sound.Overlap cluster)
refusal_of (Refcount cluster) = Some (sound.Refcount cluster)
refusal_of HeaderFull = Some sound.HeaderFull
refusal_of (Io count) = None
refusal_of NoMemory = None

-- a stop that names a refusal names this one
abbrev pub Names : Option Refusal → ImageStop → Type 0
Names refusal stop = IfSome (refusal_of stop) (λ named. refusal ≡ Some named)

-- an answer by content is the refusal
abbrev pub Judges : {A : Type 0} → Option Refusal → Result A ImageStop → Type 0
Judges refusal (Ok a) = refusal ≡ None
Judges refusal (Err stop) = Names refusal stop

-- the fault that a stop tells, and an answer
abbrev pub fault_in_image : ImageStop → Option ℕ
fault_in_image (HeaderStops stop) = None
fault_in_image (Offset offset) = None
fault_in_image (Reserved table index) = None
fault_in_image (Compressed cluster) = None
fault_in_image (Overlap cluster) = None
fault_in_image (Refcount cluster) = None
fault_in_image HeaderFull = None
fault_in_image (Io count) = Some count
fault_in_image NoMemory = None

abbrev pub fault_of_image : {A : Type 0} → Result A ImageStop → Option ℕ
fault_of_image (Ok done) = None
fault_of_image (Err stop) = fault_in_image stop

-- a stop that names no failed call
abbrev pub IsNoFault : ImageStop → Type 0
IsNoFault stop = fault_in_image stop ≡ None

-- a stop that names no refusal of the header
abbrev pub IsNoHeader : ImageStop → Type 0
IsNoHeader (HeaderStops stop) = ⊥
IsNoHeader stop = Unit {0}

-- the header's refusal, as one of an image
abbrev pub header_stops : List ℕ → ℕ → Option Refusal
header_stops file len = option_map InHeader (header_refusal file len)

-- the refusals of the places of the two tables that the header names
abbrev pub place_stops : Header → ℕ → Option Refusal
place_stops h len = first (
    option_map sound.Offset (bad_refcount_table h len)
    ∷ option_map sound.Offset (bad_l1_table h len)
    ∷ [])

-- how often a header and the words of its tables name a cluster: those of the refcount table, of the L1 table, and of all L2 tables
abbrev pub uses_in : Header → List ℕ → List ℕ → List ℕ → ℕ → ℕ
uses_in h table l1 words k = let c = cluster_size h.cluster_bits in
    structure_uses h table k + (times_named c Table l1 k + times_named c Own words k)

-- in a file of `len` bytes, all that a header and the words of its tables name lies in its place
pub record ArePlaced (h : Header) (len : ℕ) (table l1 words : List ℕ) : Type 0 where
  pub refcount_table : is_misplaced (cluster_size h.cluster_bits) len h.ref_offset ≡ false
  pub l1_table : is_misplaced (cluster_size h.cluster_bits) len h.l1_offset ≡ false
  pub blocks : (i : ℕ) → i < length table
      → is_misplaced (cluster_size h.cluster_bits) len (block_offset (slice_index table i)) ≡ false
  pub tables : (i : ℕ) → i < length l1
      → is_misplaced (cluster_size h.cluster_bits) len (host_offset (slice_index l1 i)) ≡ false
  pub hosts : (i : ℕ) → i < length words
      → is_misplaced (cluster_size h.cluster_bits) len (own_offset (slice_index words i)) ≡ false

-- the refusal of the lowest cluster that is named twice, of so many
abbrev pub overlap_stop : (ℕ → ℕ) → ℕ → Option Refusal
overlap_stop uses n = option_map sound.Overlap (lowest (λ k. nat_lt 1 (uses k)) n)

-- the refusal of the lowest cluster that is named and has refcount 0
abbrev pub uncounted_stop : (ℕ → ℕ) → List ℕ → ℕ → Option Refusal
uncounted_stop uses counts n =
    option_map sound.Refcount (lowest (λ k. not (uses k == 0) && (slice_index counts k == 0)) n)

-- the refusals behind the tables' words, where the clusters are named so often and have these refcounts
abbrev pub names_stops : Header → (ℕ → ℕ) → List ℕ → ℕ → Option Refusal
names_stops h uses counts n = first (
    overlap_stop uses n
    ∷ uncounted_stop uses counts n
    ∷ refused_where (is_header_full h) sound.HeaderFull
    ∷ [])
