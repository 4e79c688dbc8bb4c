-- Writing an image: what changes of its disk, and when there is room for it.
use Rattle.std.specs.Prelude.{◌≡◌, ◌≢◌, ◌⊎◌, ℕ, ◌+◌, ◌*◌, ◌/◌, ◌%◌, ◌<◌, ◌≤◌, max, ◌==◌, Bool, true, not, ◌&&◌, ◌||◌, is_ok, option_map, if◌then◌else◌, List, [], length, slice_index, Option, Some, None, Result, Ok, Err}
use Rattle.blk_base.specs.Calls.{IsCallAfter}
use Rattle.blk_base.specs.Counts.{Rose}
use Rattle.blk_base.specs.Device.{CountsFault}
use Rattle.blk_base.specs.Pieces.{Extent}
use Rattle.blk_base.specs.declared.device.Device.{Ghosts}
use Rattle.blk_base.specs.declared.device.DeviceCall.TheVariants as calls
use Rattle.blk_base.specs.declared.device.WriteStop.{WriteStop}
use Rattle.blk_base.specs.declared.device.Stop.TheVariants as why
use Rattle.blk_base.specs.declared.fault.DevStop.{DevStop}
use Rattle.blk_base.specs.declared.fault.DevStop.TheVariants.{Io, NoSpace}
use Rattle.q2_format.specs.Entry.{host_of, l2_spelling}
use Rattle.q2_format.specs.Header.{header_of}
use Rattle.q2_format.specs.Contents.{guest_byte}
use Rattle.q2_format.specs.Bytes.{place_bytes}
use Rattle.q2_format.specs.References.{uses, own_offset}
use Rattle.q2_format.specs.Tables.{refcount_of}
use Rattle.q2_format.specs.declared.entries.L2Entry.{L2Entry}
use Rattle.q2_format.specs.declared.entries.L2Entry.TheVariants.{Unallocated, Zero, Host, Compressed, Reserved}
use Rattle.q2_refs.specs.Allocating.{end_of_allocation, with_one, with_block_for}
use Rattle.q2_refs.specs.Free.{free_cluster}
use Rattle.q2_refs.specs.Kept as refs
use Rattle.q2_tables.specs.Linking.{table_of, link_end}
use Rattle.q2_image.specs.Image.{Known, cluster_size_in, word_in, entry_in}

-- What changes of a disk.

-- The disks of two files have one size, and over any backing disk they read alike, but that the new one has
-- these bytes from a place on.
pub record IsDiskWith (old new : List ℕ) (at : ℕ) (bytes : List ℕ) : Type 0 where
  pub size : (header_of new).size ≡ (header_of old).size
  pub inside : (backing : List ℕ) (i : ℕ) → i < length bytes → at + i < (header_of old).size
      → guest_byte new backing (at + i) ≡ slice_index bytes i
  pub outside : (backing : List ℕ) (place : ℕ) → place < (header_of old).size → (place < at)
      ⊎ (at + length bytes ≤ place)
      → guest_byte new backing place ≡ guest_byte old backing place

-- no byte changed
abbrev pub IsSameDisk : List ℕ → List ℕ → Type 0
IsSameDisk old new = IsDiskWith old new 0 []

-- the same image with its autoclear field 0, which is written before anything else is
abbrev pub autocleared : Known → Known
autocleared image = record image { header = record image.header { autoclear = 0 } }

-- the autoclear field is 0, or no byte that is told has changed
abbrev pub ClearsFirst : Option (List ℕ) → Option (List ℕ) → Known → Type 0
ClearsFirst old new image = (image.header.autoclear ≡ 0) ⊎ (new ≡ old)

-- all guest clusters but one have the entries that they had, bit for bit
abbrev pub HasEntriesBut : Known → Known → ℕ → Type 0
HasEntriesBut old new but =
    (cluster : ℕ) → cluster ≢ but → word_in new cluster ≡ word_in old cluster

-- there is a host cluster at an offset, and its refcount is exactly one
abbrev pub counts_once : Known → ℕ → Bool
counts_once image host =
    not (host == 0) && slice_index image.refs.counts (host / cluster_size_in image) == 1

-- what counts stays counted
abbrev pub StaysTaken : Known → Known → Type 0
StaysTaken old new = (n : ℕ) → slice_index old.refs.counts n ≢ 0 → slice_index new.refs.counts n ≢ 0

-- The kept word of a guest cluster spells its entry, with bit 63 set exactly where there is a host cluster that
-- counts once.
abbrev pub IsSpelled : Known → ℕ → Type 0
IsSpelled image cluster =
    let entry = entry_in image cluster in
    word_in image cluster ≡ l2_spelling entry (counts_once image (host_of entry))

-- a cluster that counts, and that nothing names
pub record IsSpare (file : List ℕ) (cluster : ℕ) : Type 0 where
  pub unnamed : uses file (header_of file) cluster ≡ 0
  pub counted : refcount_of file (header_of file) cluster ≢ 0

-- No guest byte lies in the host cluster of c bytes at an offset: it is spare, or an entry that reads as zeros names it.
abbrev pub HoldsNoGuestByte : ℕ → List ℕ → Known → ℕ → Type 0
HoldsNoGuestByte c file image offset =
    IsSpare file (offset / c)
    ⊎ ((cluster : ℕ) × (cluster < length image.tables.words)
    × (entry_in image cluster ≡ Zero offset) × (0 < offset))

-- What a link may name for its guest cluster, in clusters of c bytes: no host cluster, the one that is named already, or a spare one
-- other than the new table's.
abbrev pub MayName : ℕ → List ℕ → Known → ℕ → ℕ → ℕ → Type 0
MayName c file image cluster table host =
    (host ≡ 0)
    ⊎ ((host ≡ own_offset (slice_index image.tables.words cluster))
    ⊎ (IsSpare file (host / c) × (host % c ≡ 0) × (host < length file)
    × (table ≢ 0 → host / c ≢ table / c)))

-- the bytes of a guest cluster of c bytes that reads as zeros
pub record AreClusterZeros (c : ℕ) (bytes : List ℕ) : Type 0 where
  pub whole : length bytes ≡ c
  pub zeros : (i : ℕ) → slice_index bytes i ≡ 0

-- the bytes that a guest cluster of c bytes reads as by its own entry
abbrev pub Shows : ℕ → List ℕ → L2Entry → List ℕ → Type 0
Shows c file Unallocated bytes = ⊥
Shows c file (Zero host) bytes = (i : ℕ) → slice_index bytes i ≡ 0
Shows c file (Host host) bytes = place_bytes file host c ≡ bytes
Shows c file Compressed bytes = ⊥
Shows c file Reserved bytes = ⊥

-- Which clusters are taken, and when there is room.

-- a guest cluster has no L2 table, so that one is taken for it
abbrev pub needs_table : Known → ℕ → Bool
needs_table image cluster = table_of image.tables cluster == 0

-- The host cluster that a put writes into where there is one: that of an entry which reads as zeros. No guest
-- byte lies there.
abbrev pub idle_host : L2Entry → ℕ
idle_host Unallocated = 0
idle_host (Zero host) = host
idle_host (Host host) = 0
idle_host Compressed = 0
idle_host Reserved = 0

-- a put takes a cluster for the data
abbrev pub needs_host : Known → ℕ → Bool
needs_host image cluster = idle_host (entry_in image cluster) == 0

-- where the k-th cluster from now will be taken
abbrev pub taken_at : Known → ℕ → ℕ
taken_at image k = free_cluster image.refs k * cluster_size_in image

-- the offset for the new L2 table, 0 where none is needed
abbrev pub table_for : Known → ℕ → ℕ
table_for image cluster = if needs_table image cluster then taken_at image 0 else 0

-- the offset that a put writes the data to
abbrev pub host_for : Known → ℕ → ℕ
host_for image cluster =
    if needs_host image cluster then taken_at image (if needs_table image cluster then 1 else 0)
    else idle_host (entry_in image cluster)

-- the refcounts after the next cluster was taken
abbrev pub after_take : refs.KeptRefs → refs.KeptRefs
after_take r = with_one (with_block_for r (free_cluster r 0)) (free_cluster r 0)

-- the image after the next cluster was taken
abbrev pub with_taken : Known → Known
with_taken image = record image { refs = after_take image.refs }

-- after an L2 table's cluster was taken where one is needed, and one for the data
abbrev pub with_table : Known → ℕ → Known
with_table image cluster = if needs_table image cluster then with_taken image else image

abbrev pub with_host : Known → ℕ → Known
with_host image cluster = if needs_host image cluster then with_taken image else image

-- where the data go that are put next
abbrev pub next_host : Known → ℕ → ℕ
next_host image cluster =
    if needs_host image cluster then taken_at image 0 else idle_host (entry_in image cluster)

-- only what is kept of the refcounts differs
pub record HasSameEntries (old new : Known) : Type 0 where
  pub header : new.header ≡ old.header
  pub tables : new.tables ≡ old.tables

-- the k-th cluster from now is below the reach, and what is written to take it ends within a capacity
pub record CanTake (image : Known) (k capacity : ℕ) : Type 0 where
  pub below : free_cluster image.refs k < length image.refs.counts
  pub fits : end_of_allocation image.refs (free_cluster image.refs k) ≤ capacity

-- the end of the autoclear field, where that is written
abbrev pub autoclear_end : Known → ℕ
autoclear_end image = if image.header.autoclear == 0 then 0 else 96

-- a zero write of a whole cluster has room: what it takes can be taken, and each of its writes ends within the capacity
pub record ZeroFits (image : Known) (cluster capacity : ℕ) : Type 0 where
  pub header : autoclear_end image ≤ capacity
  pub table : needs_table image cluster ≡ true → CanTake image 0 capacity
  pub entry : link_end image.tables cluster (table_for image cluster) ≤ capacity

-- a put of a cluster has room
pub record PutFits (image : Known) (cluster capacity : ℕ) : Type 0 where
  pub entry : ZeroFits image cluster capacity
  pub host : needs_host image cluster ≡ true
      → CanTake image (if needs_table image cluster then 1 else 0) capacity
  pub payload : host_for image cluster + cluster_size_in image ≤ capacity

-- the fault that an answer tells
abbrev pub count_of : {A : Type 0} → Result A DevStop → Option ℕ
count_of (Ok done) = None
count_of (Err (Io count)) = Some count
count_of (Err NoSpace) = None

-- a stop that tells a fault, the only one of a call that has room
abbrev pub TellsFault : DevStop → Type 0
TellsFault (Io count) = Unit {0}
TellsFault NoSpace = ⊥

-- What a flush leaves: behind Ok the device is flushed, where it tells that at all, and all else is as before but the
-- count of faults, and which call failed last.
pub record Flushes {D : Type 0} (g : Ghosts D) (result : Result (Unit {0}) DevStop) (old new : D)
    : Type 0 where
  pub flushed : g.is_flushed new ≡ option_map (λ f. is_ok result || f) (g.is_flushed old)
  pub content : g.content new ≡ g.content old
  pub log : g.log new ≡ g.log old
  pub size : g.size new ≡ g.size old
  pub capacity : g.capacity new ≡ g.capacity old
  pub faults : g.faults old ≤ g.faults new
  pub cause : CountsFault (count_of result) (g.faults old) (g.faults new)
  pub call : IsCallAfter result calls.Flush (g.failed_call old) (g.failed_call new)

-- one image has the header of another, but for the autoclear field
abbrev pub HasHeaderOf : Known → Known → Type 0
HasHeaderOf old new = (autocleared new).header ≡ (autocleared old).header

-- where a part of a mapped cluster begins in the file
abbrev pub own_place : Known → Extent → ℕ
own_place image span =
    let c = cluster_size_in image in
    host_of (entry_in image (span.start / c)) + span.start % c

-- the end of a write in place, and of the autoclear field where that is written before it
abbrev pub own_end : Known → Extent → ℕ
own_end image span = max (autoclear_end image) (own_place image span + span.len)

-- a write in place that a failed call stopped: some of its first bytes are written, but not all, up to a border of sectors
pub record IsFailedOwn (place len before now : ℕ) (stop : WriteStop) : Type 0 where
  pub why : stop.why ≡ why.Failed
  pub part : (stop.done ≡ 0) ⊎ (stop.done < len)
  pub sector : (stop.done ≡ 0) ⊎ ((place + stop.done) % 512 ≡ 0)
  pub rose : Rose before now

-- want of space comes exactly where the write would end above the capacity, and then nothing was written
pub record IsOwnStop (place end capacity len before now : ℕ) (stop : WriteStop) : Type 0 where
  pub no_space : stop.why ≡ why.NoSpace → (capacity < end) × (stop.done ≡ 0)
  pub failed : stop.why ≡ why.Failed → (end ≤ capacity) × IsFailedOwn place len before now stop
