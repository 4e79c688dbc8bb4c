-- What the writing of a piece makes of the image in a node's row and of the device of its file: which writes, in their order, and
-- what is known of the image behind them.
use Rattle.std.specs.Prelude.{◌≡◌, ◌⊎◌, ℕ, ◌+◌, ◌-◌, ◌*◌, ◌%◌, ◌<◌, ◌≤◌, min, Bool, true, false, List, length, replicate, slice_index, Option, Some, None}
use Rattle.blk_base.specs.Content.{bytes_at, with_bytes}
use Rattle.blk_base.specs.Device.{AtEachStopOf}
use Rattle.blk_base.specs.Pieces.{Extent, block_size}
use Rattle.blk_base.specs.declared.device.Device.{Ghosts}
use Rattle.blk_base.specs.declared.fault.DevStop.{DevStop}
use Rattle.blk_base.specs.declared.fault.DevStop.TheVariants as stops
use Rattle.blk_base.specs.declared.fault.Outcome.{Outcome}
use Rattle.blk_base.specs.declared.fault.Outcome.TheVariants.{Good, Torn, Io, NoSpace}
use Rattle.q2_format.specs.Entry.{host_of}
use Rattle.q2_format.specs.declared.entries.L2Entry.{L2Entry}
use Rattle.q2_format.specs.declared.entries.L2Entry.TheVariants as entries
use Rattle.q2_image.specs.Image.{Known, cluster_size_in, entry_in}
use Rattle.q2_image.specs.Made.{WriteStep, MakesSteps, WroteOwn, IsOldOrWith, IsOwnPart, own_writes, put_steps, writes_of_steps, zero_steps}
use Rattle.q2_image.specs.Reading.{IsHost}
use Rattle.q2_image.specs.BackingName.{KeepsHeader}
use Rattle.q2_image.specs.Writing.{ClearsFirst}
use Rattle.q2_image.specs.Room.{cluster_of, entry_for, is_whole}
use Rattle.blk_nodes.specs.Nodes.{Nodes, DeviceSeen, row_at, device_in, file_of}
use Rattle.blk_nodes.specs.declared.row.Driver.{Driver}
use Rattle.blk_nodes.specs.declared.row.Driver.TheVariants as drivers
use Rattle.blk_nodes.specs.declared.row.Row.{Row}

-- a device by what is seen of it
abbrev pub seen : Ghosts DeviceSeen
seen = record {
  content = λ device. device.content;
  is_flushed = λ device. device.is_flushed;
  log = λ device. device.log;
  size = λ device. device.size;
  capacity = λ device. device.capacity;
  faults = λ device. device.faults;
  failed_call = λ device. device.failed_call;
}

-- how an image and its device change: what is known of the one, before and after, what is seen of the other, and how it went
abbrev pub ImageChange : Type 1
ImageChange = Known → Known → DeviceSeen → DeviceSeen → Outcome → Type 0

-- not at all
abbrev pub IsUnchanged : Known → Known → DeviceSeen → DeviceSeen → Type 0
IsUnchanged image now before after = (now ≡ image) × (after ≡ before)

-- By steps.

-- The steps are made, or a part of them, and the autoclear field is cleared before anything else. Wherever they stop, the file is
-- sound, its disk is the old one or the one with these bytes at a place, and of the header's cluster that field alone has changed.
pub record MakesChange (steps : List WriteStep) (place : ℕ) (bytes : List ℕ)
    (stop : Option DevStop) (image now : Known) (before after : DeviceSeen) : Type 0 where
  pub made : MakesSteps seen image steps stop now before after
  pub cleared : ClearsFirst before.content after.content now
  pub stops : AtEachStopOf seen (IsOldOrWith place bytes) (writes_of_steps steps) before
  pub header : AtEachStopOf seen KeepsHeader (writes_of_steps steps) before

-- by how it went, and what is so of the image behind all of them
abbrev pub ChangesBySteps : List WriteStep → ℕ → List ℕ → (Known → Type 0) → ImageChange
ChangesBySteps steps place bytes IsMade image now before after Good =
    MakesChange steps place bytes None image now before after × IsMade now
ChangesBySteps steps place bytes IsMade image now before after (Torn done dev count) = ⊥
ChangesBySteps steps place bytes IsMade image now before after (Io dev count) =
    MakesChange steps place bytes (Some (stops.Io count)) image now before after
ChangesBySteps steps place bytes IsMade image now before after (NoSpace dev) =
    IsUnchanged image now before after

-- a guest cluster gets these bytes in a host cluster where no guest byte lies
abbrev pub PutsCluster : ℕ → List ℕ → ImageChange
PutsCluster cluster bytes image =
    ChangesBySteps (put_steps image cluster bytes) (cluster * cluster_size_in image) bytes
    (λ now. IsHost (entry_in now cluster)) image

-- a guest cluster is made to read as zeros by its entry alone
abbrev pub ClearsCluster : ℕ → ImageChange
ClearsCluster cluster image =
    ChangesBySteps (zero_steps image cluster) (cluster * cluster_size_in image)
    (replicate (cluster_size_in image) 0)
    (λ now. entry_in now cluster ≡ entries.Zero (host_of (entry_in image cluster))) image

-- Of a part of a cluster.

-- These bytes are written in place, behind a cleared autoclear field, or a failed call stopped that behind so many of them.
-- Wherever it stops, the file is sound, its disk is the old one with some of the first bytes of the part, and of the header's
-- cluster the autoclear field alone has changed.
pub record WritesInPlace (part : Extent) (bytes : List ℕ) (stop : Option ℕ) (image now : Known)
    (before after : DeviceSeen) : Type 0 where
  pub wrote : WroteOwn seen image now part bytes stop before after
  pub cleared : ClearsFirst before.content after.content now
  pub stops : AtEachStopOf seen (IsOwnPart part.start bytes) (own_writes image part bytes) before
  pub header : AtEachStopOf seen KeepsHeader (own_writes image part bytes) before

abbrev pub ChangesInPlace : Extent → List ℕ → ImageChange
ChangesInPlace part bytes image now before after Good =
    WritesInPlace part bytes None image now before after
ChangesInPlace part bytes image now before after (Torn done dev count) =
    WritesInPlace part bytes (Some done) image now before after
ChangesInPlace part bytes image now before after (Io dev count) =
    WritesInPlace part bytes (Some 0) image now before after
ChangesInPlace part bytes image now before after (NoSpace dev) =
    IsUnchanged image now before after

-- where the cluster of a part begins on the disk
abbrev pub cluster_start : Known → Extent → ℕ
cluster_start image part = cluster_of image part * cluster_size_in image

-- the stretch of c bytes, from a multiple of c on, in which a span lies, up to the end of a disk of so many bytes
abbrev pub stretch_around : ℕ → ℕ → Extent → Extent
stretch_around c size span =
    let start = span.start - span.start % c in
    record { start = start; len = min c (size - start) }

-- the block of it, by which pieces are cut
abbrev pub block_around : ℕ → Extent → Extent
block_around size span = stretch_around block_size size span

-- the cluster of it on an image's disk
abbrev pub cluster_around : Known → Extent → Extent
cluster_around image span = stretch_around (cluster_size_in image) image.header.size span

-- The bytes of the whole cluster that is put around a part: those of the part in their place, zeros from the disk's end on, and
-- else what the disk has there, by what is known of its bytes.
pub record IsClusterAround (IsDisk : List ℕ → Type 0) (image : Known) (part : Extent)
    (bytes cluster : List ℕ) : Type 0 where
  pub whole : length cluster ≡ cluster_size_in image
  pub holds : (i : ℕ) → i < length bytes
      → slice_index cluster (part.start % cluster_size_in image + i) ≡ slice_index bytes i
  pub behind : (i : ℕ) → image.header.size ≤ cluster_start image part + i
      → slice_index cluster i ≡ 0
  pub is : (disk : List ℕ) → IsDisk disk
      → cluster ≡ bytes_at (with_bytes disk part.start bytes) (cluster_start image part)
      (cluster_size_in image)

-- that cluster is put
pub record PutsAround (IsDisk : List ℕ → Type 0) (part : Extent) (bytes : List ℕ)
    (stop : Option DevStop) (image now : Known) (before after : DeviceSeen) : Type 0 where
  pub cluster : List ℕ
  pub around : IsClusterAround IsDisk image part bytes cluster
  pub puts : MakesChange (put_steps image (cluster_of image part) cluster)
      (cluster_start image part) cluster stop image now before after

-- the rest of the cluster is read before, from other files; where that stops it, nothing is tried
abbrev pub ChangesAround : (List ℕ → Type 0) → Extent → List ℕ → ImageChange
ChangesAround IsDisk part bytes image now before after Good =
    PutsAround IsDisk part bytes None image now before after
    × IsHost (entry_in now (cluster_of image part))
ChangesAround IsDisk part bytes image now before after (Torn done dev count) = ⊥
ChangesAround IsDisk part bytes image now before after (Io dev count) =
    PutsAround IsDisk part bytes (Some (stops.Io count)) image now before after
    ⊎ IsUnchanged image now before after
ChangesAround IsDisk part bytes image now before after (NoSpace dev) =
    IsUnchanged image now before after

-- by what its cluster is mapped to
abbrev pub ChangesPart : (List ℕ → Type 0) → L2Entry → Extent → List ℕ → ImageChange
ChangesPart IsDisk (entries.Host host) part bytes = ChangesInPlace part bytes
ChangesPart IsDisk entry part bytes = ChangesAround IsDisk part bytes

-- Of a piece, by what is known of the disk.

-- bytes are written
abbrev pub IsImageWritten : (List ℕ → Type 0) → Extent → List ℕ → ImageChange
IsImageWritten IsDisk part bytes image = ChangesPart IsDisk (entry_for image part) part bytes image

-- zeros are written to a part of a cluster, and nothing is tried where that reads as zeros
abbrev pub ZeroesPart : (List ℕ → Type 0) → L2Entry → Extent → ImageChange
ZeroesPart IsDisk (entries.Zero host) part image now before after outcome =
    IsUnchanged image now before after × (outcome ≡ Good)
ZeroesPart IsDisk entry part image now before after outcome =
    ChangesPart IsDisk entry part (replicate part.len 0) image now before after outcome

-- zeros are written to a whole cluster, or to a part
abbrev pub ZeroesBy : (List ℕ → Type 0) → Bool → Extent → ImageChange
ZeroesBy IsDisk true part image = ClearsCluster (cluster_of image part) image
ZeroesBy IsDisk false part image = ZeroesPart IsDisk (entry_for image part) part image

abbrev pub IsZeroed : (List ℕ → Type 0) → Extent → ImageChange
IsZeroed IsDisk part image = ZeroesBy IsDisk (is_whole image part) part image

-- Of a node.

-- its row has what is known of the image behind the change
pub record ChangesRow (change : ImageChange) (image : Known) (row : Row) (old new : Nodes)
    (node : ℕ) (outcome : Outcome) : Type 0 where
  pub now : Known
  pub left : row_at new node ≡ Some (record row { driver = drivers.Qcow2 now })
  pub changed : (file : ℕ) (before after : DeviceSeen) → file_of old node ≡ Some file
      → device_in old.devices file ≡ Some before → device_in new.devices file ≡ Some after
      → change image now before after outcome

-- a node's row is as before, but for what is known of its image
abbrev pub LeavesRow : ImageChange → Driver → Row → Nodes → Nodes → ℕ → Outcome → Type 0
LeavesRow change (drivers.Qcow2 image) row old new node outcome =
    ChangesRow change image row old new node outcome
LeavesRow change driver row old new node outcome = row_at new node ≡ Some row
