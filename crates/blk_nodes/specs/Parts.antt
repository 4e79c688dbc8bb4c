-- A piece of a qcow2 node: where it lies, and what its writing leaves of the rows and the devices.
use Rattle.std.specs.Prelude.{◌≡◌, ◌⊎◌, ℕ, ◌+◌, ◌<◌, ◌≤◌, List, length, slice_index, slice_index_or, slice_set, Option, Some, None, IsSome}
use Rattle.blk_base.specs.Content.{bytes_at, with_bytes}
use Rattle.blk_base.specs.Pieces.{block_size, end_of}
use Rattle.blk_base.specs.declared.fault.DevNo.{DevNo}
use Rattle.blk_base.specs.declared.fault.Outcome.{Outcome}
use Rattle.blk_base.specs.declared.fault.Outcome.TheVariants.{Good, Io, NoSpace}
use Rattle.q2_format.specs.Contents.{image_disk}
use Rattle.q2_image.specs.Image.{Known, IsImageOf, IsOpen, cluster_size_in}
use Rattle.q2_image.specs.Reading.{IsWithinCluster}
use Rattle.q2_image.specs.Writing.{HasHeaderOf, StaysTaken}
use Rattle.blk_nodes.specs.Changing.{ImageChange, cluster_around}
use Rattle.blk_nodes.specs.Found.{found_bytes, IsReadOfSource}
use Rattle.blk_nodes.specs.Nodes.{Nodes, DeviceSeen, AreTold, device_in, row_at}
use Rattle.blk_nodes.specs.Reading.{HaveRisen, OnlyAt}
use Rattle.blk_nodes.specs.Walk.{IsKnownAt, CanSourceBeRead}
use Rattle.blk_nodes.specs.Writing.{taken_by, StaysMapped, IsDeviceAfter, IsImageCallAt, HasImageCause}
use Rattle.blk_nodes.specs.declared.part.Part.{Part}
use Rattle.blk_nodes.specs.declared.row.Driver.{Driver}
use Rattle.blk_nodes.specs.declared.row.Driver.TheVariants.{File, Raw, Qcow2, CopyOnRead, Filter}
use Rattle.blk_nodes.specs.declared.row.Row.{Row}

-- a fact of the image of a qcow2 node
abbrev pub OfImageBy : Driver → (Known → Type 0) → Type 0
OfImageBy File P = ⊥
OfImageBy (Raw part) P = ⊥
OfImageBy (Qcow2 image) P = P image
OfImageBy CopyOnRead P = ⊥
OfImageBy (Filter kind) P = ⊥

abbrev pub OfImage : Option Row → (Known → Type 0) → Type 0
OfImage None P = ⊥
OfImage (Some row) P = OfImageBy row.driver P

-- a node is a qcow2 one
abbrev pub IsImage : Nodes → ℕ → Type 0
IsImage nodes node = OfImage (row_at nodes node) (λ _. Unit {0})

-- a piece of an image: it has bytes, lies in one cluster within the disk, and the rest of the cluster can be read
pub record IsPieceOf (rows : List (Option Row)) (devices : List DeviceSeen) (part : Part)
    (image : Known) : Type 0 where
  pub opened : IsOpen image
  pub some : 0 < part.span.len
  pub cluster : IsWithinCluster (cluster_size_in image) part.span
  pub inside : end_of part.span ≤ image.header.size
  pub whole : part.whole ≡ cluster_around image part.span
  pub held : IsSome (device_in devices part.file)
  pub known : IsKnownAt part.file devices image
  pub can : CanSourceBeRead rows devices part.whole.start part.source

abbrev pub row_in : List (Option Row) → ℕ → Option Row
row_in rows node = slice_index_or rows node None

abbrev pub HasPiece : List (Option Row) → List DeviceSeen → Part → Type 0
HasPiece rows devices part = OfImage (row_in rows part.node) (IsPieceOf rows devices part)

-- a cluster of c bytes of which the disk has n: these from a place on, and zeros behind the disk's end
pub record IsLaid (c n at : ℕ) (bytes cluster : List ℕ) : Type 0 where
  pub whole : length cluster ≡ c
  pub inside : (i : ℕ) → i < length bytes → slice_index cluster (at + i) ≡ slice_index bytes i
  pub behind : (i : ℕ) → n ≤ i → slice_index cluster i ≡ 0

-- and else those that were found
abbrev pub HasFound : ℕ → ℕ → List ℕ → List ℕ → List ℕ → Type 0
HasFound n at bytes found cluster = (i : ℕ) → i < n → (i < at) ⊎ (at + length bytes ≤ i)
    → slice_index cluster i ≡ slice_index found i

-- A disk of which the bytes of a piece's cluster were found, where the devices tell theirs. Where they are less than a block, they
-- are the disk's last.
pub record IsDiskFound (devices : List DeviceSeen) (part : Part) (disk : List ℕ) : Type 0 where
  pub told : AreTold devices
  pub found : found_bytes devices part.source part.whole.start part.whole.len
      ≡ bytes_at disk part.whole.start part.whole.len
  pub ends : part.whole.len < block_size → length disk ≡ part.whole.start + part.whole.len

-- a call of the image in a row, on the device of a `file` node; from where on it writes what bytes goes by the image
pub record CallsRow (file : ℕ) (fits : Known → ℕ → Type 0) (own : Known → Option ℕ)
    (change : ImageChange) (old new : Option Row) (before after : List DeviceSeen)
    (place : Known → ℕ) (bytes : Known → List ℕ) (outcome : Outcome) : Type 0 where
  pub row : Row
  pub image : Known
  pub now : Known
  pub there : old ≡ Some row
  pub driver : row.driver ≡ Qcow2 image
  pub left : new ≡ Some (record row { driver = Qcow2 now })
  pub opened : IsOpen now
  pub call : IsImageCallAt file (fits image) (own image) change before after image now
      (place image) (bytes image) outcome

-- What the writing of a piece leaves.

-- no row and no device changed, for want of room
pub record RefusesPiece (file : ℕ) (fits : ℕ → Type 0) (rows left : List (Option Row))
    (old new : List DeviceSeen) (outcome : Outcome) : Type 0 where
  pub dev : DevNo
  pub is : outcome ≡ NoSpace dev
  pub device : DeviceSeen
  pub held : device_in old file ≡ Some device
  pub full : fits device.capacity → ⊥
  pub named : dev ≡ device.number
  pub rows_same : left ≡ rows
  pub devices_same : new ≡ old

-- The read of the rest of the cluster was stopped: the piece isn't written in place, nor all that the disk has of the cluster.
pub record StopsReading (part : Part) (fits : ℕ → Type 0) (own : Option ℕ) (change : ImageChange)
    (image : Known) (rows left : List (Option Row)) (old new : List DeviceSeen)
    (outcome : Outcome) : Type 0 where
  pub dev : DevNo
  pub count : ℕ
  pub is : outcome ≡ Io dev count
  pub nowhere : own ≡ None
  pub less : part.span.len < part.whole.len
  pub device : DeviceSeen
  pub held : device_in old part.file ≡ Some device
  pub fit : fits device.capacity
  pub read : IsReadOfSource rows part.source part.whole old new outcome
  pub risen : HaveRisen old new
  pub rows_same : left ≡ rows
  pub changed : change image image device device outcome

-- it is read only where the piece isn't all that the disk has of the cluster
abbrev pub ReadsRest : List (Option Row) → Part → List DeviceSeen → List DeviceSeen → Outcome
    → Type 0
ReadsRest rows part old new outcome =
    ((part.span.len < part.whole.len)
    × IsReadOfSource rows part.source part.whole old new outcome)
    ⊎ ((outcome ≡ Good) × (new ≡ old))

-- the image's disk has the piece's bytes, over each backing disk from which the rest of the cluster was found
abbrev pub IsDiskAfter : List DeviceSeen → Part → List ℕ → List ℕ → List ℕ → Type 0
IsDiskAfter devices part bytes old new = (backing : List ℕ)
    → found_bytes devices part.source part.whole.start part.whole.len
    ≡ bytes_at (image_disk old backing) part.whole.start part.whole.len
    → image_disk new backing ≡ with_bytes (image_disk old backing) part.span.start bytes

-- the image was called
pub record CallsPiece (part : Part) (fits : ℕ → Type 0) (own : Option ℕ) (change : ImageChange)
    (image : Known) (row : Row) (rows left : List (Option Row)) (old new : List DeviceSeen)
    (bytes : List ℕ) (outcome : Outcome) : Type 0 where
  pub now : Known
  pub opened : IsOpen now
  pub header : HasHeaderOf image now
  pub taken : StaysTaken image now
  pub mapped : StaysMapped image now
  pub row_now : left ≡ slice_set rows part.node (Some (record row { driver = Qcow2 now }))
  pub before : DeviceSeen
  pub after : DeviceSeen
  pub held : device_in old part.file ≡ Some before
  pub held_now : device_in new part.file ≡ Some after
  pub only : OnlyAt part.file old new
  pub cause : HasImageCause (fits before.capacity) own (length bytes) before after image now outcome
  pub full : (dev : DevNo) → outcome ≡ NoSpace dev → (left ≡ rows) × (new ≡ old)
  pub changed : change image now before after outcome
  pub device : IsDeviceAfter before after
  pub known : (b : List ℕ) → after.content ≡ Some b → IsImageOf b now
  pub disk : AreTold old → (b b' : List ℕ) → before.content ≡ Some b → after.content ≡ Some b'
      → IsDiskAfter old part (taken_by outcome bytes) b b'

pub record WritesPart (fits : Known → ℕ → Type 0) (own : Known → Option ℕ)
    (change : ImageChange) (rows left : List (Option Row)) (old new : List DeviceSeen)
    (part : Part) (bytes : List ℕ) (outcome : Outcome) : Type 0 where
  pub row : Row
  pub image : Known
  pub there : row_in rows part.node ≡ Some row
  pub driver : row.driver ≡ Qcow2 image
  pub wrote : RefusesPiece part.file (fits image) rows left old new outcome
      ⊎ (StopsReading part (fits image) (own image) change image rows left old new outcome
      ⊎ CallsPiece part (fits image) (own image) change image row rows left old new bytes
      outcome)
