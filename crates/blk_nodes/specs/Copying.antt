-- A read through copy-on-read: the images below into which it puts the cluster that it met, and what that leaves.
use Rattle.std.specs.Prelude.{◌≡◌, ◌≢◌, ◌⊎◌, ℕ, zero, suc, ◌/◌, Bool, true, false, ◌&&◌, if◌then◌else◌, List, [], ◌∷◌, Option, Some, None}
use Rattle.blk_base.specs.Pieces.{Extent}
use Rattle.blk_base.specs.declared.fault.DevNo.{DevNo}
use Rattle.blk_base.specs.declared.fault.Outcome.{Outcome}
use Rattle.blk_base.specs.declared.fault.Outcome.TheVariants.{Good, Torn, Io, NoSpace}
use Rattle.blk_graph.specs.Edits.{without_parent}
use Rattle.blk_graph.specs.declared.edge.Parent.TheVariants.{Node}
use Rattle.q2_format.specs.declared.entries.L2Entry.{L2Entry}
use Rattle.q2_format.specs.declared.entries.L2Entry.TheVariants as entries
use Rattle.q2_image.specs.Image.{cluster_size_in, entry_in}
use Rattle.q2_image.specs.Reading.{IsHost}
use Rattle.q2_image.specs.Room.{WriteFits}
use Rattle.blk_nodes.specs.Contents.{bytes_of}
use Rattle.blk_nodes.specs.Found.{FindsBytes, IsReadOfSource}
use Rattle.blk_nodes.specs.Nodes.{Nodes, DeviceSeen, AreTold, row_at, device_in, node_size, file_of}
use Rattle.blk_nodes.specs.Parts.{OfImage}
use Rattle.blk_nodes.specs.Reading.{HaveRisen, LeadsTo, StoppedBelow}
use Rattle.blk_nodes.specs.Sources.{step_of, source_at}
use Rattle.blk_nodes.specs.Writing.{FitsAt, HasImageIn, WritesPiece, LeavesNodes}
use Rattle.blk_nodes.specs.declared.row.Driver.{Driver}
use Rattle.blk_nodes.specs.declared.row.Driver.TheVariants as drivers
use Rattle.blk_nodes.specs.declared.row.Row.{Row}
use Rattle.blk_nodes.specs.declared.source.Step.TheVariants.{Found, Below}

-- Which images.

abbrev pub is_unallocated : L2Entry → Bool
is_unallocated entries.Unallocated = true
is_unallocated (entries.Zero host) = false
is_unallocated (entries.Host host) = false
is_unallocated entries.Compressed = false
is_unallocated entries.Reserved = false

-- an image that has nothing of its own at a place
abbrev pub shows_below_at : ℕ → Driver → Bool
shows_below_at place drivers.File = false
shows_below_at place (drivers.Raw part) = false
shows_below_at place (drivers.Qcow2 image) =
    is_unallocated (entry_in image (place / cluster_size_in image))
shows_below_at place drivers.CopyOnRead = false
shows_below_at place (drivers.Filter kind) = false

abbrev pub is_copy_on_read : Driver → Bool
is_copy_on_read drivers.File = false
is_copy_on_read (drivers.Raw part) = false
is_copy_on_read (drivers.Qcow2 image) = false
is_copy_on_read drivers.CopyOnRead = true
is_copy_on_read (drivers.Filter kind) = false

-- whether a read through a node puts the cluster of a place into the node below
abbrev pub puts_below : Option Row → Option Row → ℕ → Bool
puts_below None child place = false
puts_below (Some row) None place = false
puts_below (Some row) (Some child) place =
    is_copy_on_read row.driver && shows_below_at place child.driver

-- from above to below, down a chain of so many nodes
abbrev pub images_met_in : ℕ → Nodes → ℕ → ℕ → List ℕ
images_met_in zero nodes node place = []
images_met_in (suc turns) nodes node place = elim (step_of nodes node place) as (λ _. List ℕ) [
  | Found source ↦ []
  | Below next ↦
      let rest = images_met_in turns nodes next place in
      if puts_below (row_at nodes node) (row_at nodes next) place then next ∷ rest else rest
]

-- the images that a read of a node from a place on maps
unfoldable pub images_met : Nodes → ℕ → ℕ → List ℕ
images_met nodes node place = images_met_in 64 nodes node place

abbrev pub AtEach : (ℕ → Type 0) → List ℕ → Type 0
AtEach P [] = Unit {0}
AtEach P (node ∷ nodes) = P node × AtEach P nodes

-- Whether there is room for them.

abbrev pub HasRoomIn : Nodes → Extent → ℕ → Type 0
HasRoomIn nodes span node = OfImage (row_at nodes node) (λ image.
    (file : ℕ) → file_of nodes node ≡ Some file → FitsAt file nodes.devices (WriteFits image span))

-- the device of an image's file has none
pub record LacksRoomIn (nodes : Nodes) (span : Extent) (dev : DevNo) (node : ℕ) : Type 0 where
  pub file : ℕ
  pub edge : file_of nodes node ≡ Some file
  pub device : DeviceSeen
  pub held : device_in nodes.devices file ≡ Some device
  pub named : dev ≡ device.number
  pub full : OfImage (row_at nodes node) (λ image. WriteFits image span device.capacity → ⊥)

-- of these images the lowest whose device has none, which is the first that is asked
abbrev pub LowestLacks : Nodes → Extent → DevNo → List ℕ → Type 0
LowestLacks nodes span dev [] = ⊥
LowestLacks nodes span dev (node ∷ below) =
    LowestLacks nodes span dev below
    ⊎ (AtEach (HasRoomIn nodes span) below × LacksRoomIn nodes span dev node)

abbrev pub IsRoomInEach : List ℕ → Nodes → Extent → Outcome → Type 0
IsRoomInEach images nodes span Good = AtEach (HasRoomIn nodes span) images
IsRoomInEach images nodes span (Torn done dev count) = ⊥
IsRoomInEach images nodes span (Io dev count) = ⊥
IsRoomInEach images nodes span (NoSpace dev) = LowestLacks nodes span dev images

-- What is written.

-- once there is room, only a fault stops it, and a cluster is put whole or not at all
abbrev pub GoesWhole : Outcome → Type 0
GoesWhole Good = Unit {0}
GoesWhole (Torn done dev count) = ⊥
GoesWhole (Io dev count) = Unit {0}
GoesWhole (NoSpace dev) = ⊥

-- the piece was written to an image
pub record MapsOne (old new : Nodes) (node : ℕ) (span : Extent) (bytes : List ℕ)
    (outcome : Outcome) : Type 0 where
  pub wrote : WritesPiece old new node span bytes outcome
  pub kept : LeavesNodes old new node
  pub whole : GoesWhole outcome

-- behind those below it, where none of them was stopped
abbrev pub MapsNext : Outcome → Nodes → Nodes → ℕ → Extent → List ℕ → Outcome → Type 0
MapsNext Good mid new node span bytes outcome = MapsOne mid new node span bytes outcome
MapsNext stopped mid new node span bytes outcome = (new ≡ mid) × (outcome ≡ stopped)

-- the piece was written to these images from the lowest on, until one was stopped
abbrev pub MapsEach : List ℕ → Nodes → Nodes → Extent → List ℕ → Outcome → Type 0
MapsEach [] old new span bytes outcome = (new ≡ old) × (outcome ≡ Good)
MapsEach (node ∷ rest) old new span bytes outcome =
    (mid : Nodes) × (below : Outcome) × MapsEach rest old mid span bytes below
    × MapsNext below mid new node span bytes outcome

-- How a read went.

-- for one of them there was no room: nothing was tried
pub record LacksRoom (images : List ℕ) (old new : Nodes) (span : Extent) (outcome : Outcome)
    : Type 0 where
  pub dev : DevNo
  pub is : outcome ≡ NoSpace dev
  pub lacks : LowestLacks old span dev images
  pub same : new ≡ old

-- the device that has the piece's bytes, below the node, stopped the read, and nothing was written
pub record StopsUnread (old new : Nodes) (node : ℕ) (span : Extent) (outcome : Outcome)
    : Type 0 where
  pub dev : DevNo
  pub count : ℕ
  pub is : outcome ≡ Io dev count
  pub stopped : StoppedBelow old new node dev count
  pub source : IsReadOfSource old.rows (source_at old node span.start) span old.devices
      new.devices outcome
  pub kept : new ≡ record old { devices = new.devices }
  pub devices : HaveRisen old.devices new.devices

-- there was room, and all was read or the read was stopped; behind a good one the bytes can stand there, and do where that is
-- told
pub record ReadsAndMaps (images : List ℕ) (old new : Nodes) (node : ℕ) (span : Extent)
    (bytes : List ℕ) (outcome : Outcome) : Type 0 where
  pub room : AtEach (HasRoomIn old span) images
  pub went : StopsUnread old new node span outcome ⊎ MapsEach images old new span bytes outcome
  pub found : outcome ≡ Good → FindsBytes old node span bytes

abbrev pub ReadsPiece : Nodes → Nodes → ℕ → Extent → List ℕ → Outcome → Type 0
ReadsPiece old new node span bytes outcome =
    let images = images_met old node span.start in
    LacksRoom images old new span outcome
    ⊎ ReadsAndMaps images old new node span bytes outcome

-- What stays.

-- no path leads from a node to the file of an image but through the image
abbrev pub IsBeside : Nodes → ℕ → ℕ → Type 0
IsBeside nodes other node = (file : ℕ) → file_of nodes node ≡ Some file
    → ¬ LeadsTo (without_parent (Node node) nodes.graph.edges) other file

-- the rows of all but the images, and the bytes of all but their files, are as before, and where it was good so are those devices
pub record LeavesRest (images : List ℕ) (old new : Nodes) (outcome : Outcome) : Type 0 where
  pub graph : new.graph ≡ old.graph
  pub rows : (other : ℕ) → AtEach (λ node. other ≢ node) images
      → row_at new other ≡ row_at old other
  pub sizes : (other : ℕ) → node_size new other ≡ node_size old other
  pub alike : (node file : ℕ) → HasImageIn new node file → HasImageIn old node file
  pub bytes : (file : ℕ) → AtEach (λ node. file_of old node ≢ Some file) images
      → bytes_of new file ≡ bytes_of old file
  pub devices : outcome ≡ Good → (file : ℕ) → AtEach (λ node. file_of old node ≢ Some file) images
      → device_in new.devices file ≡ device_in old.devices file
  pub told : AreTold old.devices → AreTold new.devices

-- an image has a cluster of its own at a place
abbrev pub IsMappedAt : Nodes → ℕ → ℕ → Type 0
IsMappedAt nodes place node =
    OfImage (row_at nodes node)
    (λ image. IsHost (entry_in image (place / cluster_size_in image)))
