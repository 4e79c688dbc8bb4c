-- What the addition of a qcow2 node makes of the nodes, and why one is refused.
use Rattle.std.specs.Prelude.{◌≡◌, ◌≢◌, ℕ, ◌<◌, ◌≤◌, ◌==◌, Bool, if◌then◌else◌, is_some, List, length, Option, Some, None}
use Rattle.blk_base.specs.Calls.{FailsAt, FailsReading}
use Rattle.blk_base.specs.Device.{CountsFault}
use Rattle.blk_graph.specs.Edits.{with_edge}
use Rattle.blk_graph.specs.Graph.{HasName, ids}
use Rattle.blk_graph.specs.Ids.{IsLowestFree}
use Rattle.blk_graph.specs.Judged.{with_edges}
use Rattle.blk_graph.specs.Permissions.{node_edge}
use Rattle.blk_graph.specs.declared.edge.Edge.{Edge}
use Rattle.blk_graph.specs.declared.edge.Role.TheVariants as roles
use Rattle.blk_graph.specs.declared.kind.Kind.TheVariants as kinds
use Rattle.q2_format.specs.References.{reach_of}
use Rattle.q2_format.specs.Sound.{image_refusal}
use Rattle.q2_format.specs.declared.header.HeaderStop.TheVariants.{Short}
use Rattle.q2_format.specs.declared.header.TheConstants.{MIN_HEADER_LENGTH}
use Rattle.q2_format.specs.declared.entries.L2Entry.TheVariants as entries
use Rattle.q2_image.specs.Image.{Known, IsImageOf, IsOpen, clusters_in, entry_in}
use Rattle.q2_image.specs.Opening.{Names, fault_in_image}
use Rattle.q2_image.specs.OpeningCalls.{IsOpeningCall}
use Rattle.q2_image.specs.Placed.{FitsFile}
use Rattle.q2_image.specs.Refusals.{IsRefusalFor}
use Rattle.q2_image.specs.declared.stop.ImageStop.{ImageStop}
use Rattle.q2_image.specs.declared.stop.ImageStop.TheVariants as images
use Rattle.blk_nodes.specs.Adding.{with_node_row, file_edge, kind_with, IsDenied, IsAllowed}
use Rattle.blk_nodes.specs.Nodes.{Nodes, DeviceSeen, row_at, device_in, node_size}
use Rattle.blk_nodes.specs.Reading.{OnlyAt}
use Rattle.blk_nodes.specs.declared.backing.Backing.{Backing}
use Rattle.blk_nodes.specs.declared.backing.Backing.TheVariants.{Unsaid, Null, Node}
use Rattle.blk_nodes.specs.declared.row.Driver.TheVariants.{Qcow2, CopyOnRead}
use Rattle.blk_nodes.specs.declared.row.Row.{Row}
use Rattle.blk_nodes.specs.declared.stop.AddStop.{AddStop}
use Rattle.blk_nodes.specs.declared.stop.AddStop.TheVariants as stops

abbrev pub backing_node : Backing → Option ℕ
backing_node Unsaid = None
backing_node Null = None
backing_node (Node node) = Some node

-- the bytes of its disk, 0 where there is none
abbrev pub backing_size : Nodes → Backing → ℕ
backing_size nodes Unsaid = 0
backing_size nodes Null = 0
backing_size nodes (Node node) = node_size nodes node

-- with an edge to a backing node, where there is one
abbrev pub backed : ℕ → Option ℕ → List Edge → List Edge
backed id None edges = edges
backed id (Some backing) edges = with_edge (node_edge id roles.Backing backing) edges

-- the edges of a node over a file and a backing node
abbrev pub format_edges : ℕ → ℕ → Option ℕ → List Edge → List Edge
format_edges id file backing edges = backed id backing (with_edge (file_edge id file) edges)

-- what is asked for
pub record Asked : Type 0 where
  pub name : List ℕ
  pub file : ℕ
  pub backing : Backing
  pub is_read_only : Bool

abbrev pub edges_for : Asked → ℕ → List Edge → List Edge
edges_for asked id edges = format_edges id asked.file (backing_node asked.backing) edges

abbrev pub qcow2_row : Known → Bool → Row
qcow2_row image is_read_only = record {
  driver = Qcow2 image;
  size = image.header.size;
  is_read_only = is_read_only;
}

abbrev pub copying_row : ℕ → Bool → Row
copying_row size is_read_only = record {
  driver = CopyOnRead;
  size = size;
  is_read_only = is_read_only;
}

-- the nodes with one more, and its edges
abbrev pub with_children : Nodes → ℕ → List ℕ → Row → ℕ → Option ℕ → Nodes
with_children nodes id name row child backing =
    let more = with_node_row nodes id name row in
    record more { graph = with_edges more.graph (format_edges id child backing nodes.graph.edges) }

abbrev pub with_qcow2 : Nodes → Asked → ℕ → Known → Nodes
with_qcow2 nodes asked id image =
    with_children nodes id asked.name (qcow2_row image asked.is_read_only) asked.file
    (backing_node asked.backing)

-- the image on a device is open
pub record IsOpenedOn (device : DeviceSeen) (image : Known) : Type 0 where
  pub opened : IsOpen image
  pub known : (bytes : List ℕ) → device.content ≡ Some bytes → IsImageOf bytes image
  pub reach : length image.refs.counts ≡ reach_of image.header device.size
  pub long : MIN_HEADER_LENGTH ≤ device.size
  pub fits : FitsFile device.size image

-- why it isn't opened: one that is too short for a header, for that
pub record IsUnopenedOn (old new : DeviceSeen) (stop : ImageStop) : Type 0 where
  pub named : (bytes : List ℕ) → old.content ≡ Some bytes → Names (image_refusal bytes) stop
  pub short : old.size < MIN_HEADER_LENGTH → stop ≡ images.Header Short
  pub refusal : IsRefusalFor stop old.size
  pub cause : CountsFault (fault_in_image stop) old.faults new.faults
  pub call : FailsReading (fault_in_image stop) old.failed_call new.failed_call
  pub which : FailsAt (IsOpeningCall old.size old.content) (fault_in_image stop) new.failed_call

-- Only a failed read raises a count: behind any other stop all devices are as before.
abbrev pub KeptBy : ImageStop → List DeviceSeen → List DeviceSeen → Type 0
KeptBy (images.Io count) old new = Unit {0}
KeptBy stop old new = new ≡ old

-- the same of the device of a `file` node
pub record IsOpened (devices : List DeviceSeen) (file : ℕ) (image : Known) : Type 0 where
  pub device : DeviceSeen
  pub held : device_in devices file ≡ Some device
  pub on : IsOpenedOn device image

pub record IsUnopened (old new : List DeviceSeen) (file : ℕ) (stop : ImageStop) : Type 0 where
  pub before : DeviceSeen
  pub after : DeviceSeen
  pub held : device_in old file ≡ Some before
  pub left : device_in new file ≡ Some after
  pub on : IsUnopenedOn before after stop
  pub only : OnlyAt file old new
  pub kept : KeptBy stop old new

-- what was said of a backing node doesn't fit the image
abbrev pub backing_stop : Known → Backing → ℕ → Option AddStop
backing_stop image Unsaid size =
    if is_some image.header.name then Some stops.BackingNeeded else None
backing_stop image Null size = None
backing_stop image (Node node) size =
    if size == image.header.size then None else Some stops.SizeDiffers

pub record IsMisfit (devices : List DeviceSeen) (file : ℕ) (backing : Backing) (size : ℕ)
    (stop : AddStop) : Type 0 where
  pub image : Known
  pub opened : IsOpened devices file image
  pub stops : backing_stop image backing size ≡ Some stop

-- want of memory is told apart from why an image isn't opened
abbrev pub image_stop : ImageStop → AddStop
image_stop images.NoMemory = stops.NoMemory
image_stop stop = stops.Image stop

-- Why the image in a file isn't had, where its backing node has a disk of that size. Only a failed read raises a count.
abbrev pub IsOpening : List DeviceSeen → List DeviceSeen → ℕ → Backing → ℕ → AddStop → Type 0
IsOpening old new file backing size stops.NameTaken = ⊥
IsOpening old new file backing size stops.TooManyNodes = ⊥
IsOpening old new file backing size (stops.Conflict pair) = ⊥
IsOpening old new file backing size (stops.Image stop) =
    IsUnopened old new file stop × (stop ≢ images.NoMemory)
IsOpening old new file backing size stops.BackingNeeded =
    IsMisfit old file backing size stops.BackingNeeded × (new ≡ old)
IsOpening old new file backing size stops.SizeDiffers =
    IsMisfit old file backing size stops.SizeDiffers × (new ≡ old)
IsOpening old new file backing size stops.NoMemory = new ≡ old

-- the node is there, over the image in its file
pub record IsQcow2Added (old new : Nodes) (asked : Asked) (id : ℕ) : Type 0 where
  pub image : Known
  pub lowest : IsLowestFree (ids old.graph) id
  pub opened : IsOpened old.devices asked.file image
  pub fits : backing_stop image asked.backing (backing_size old asked.backing) ≡ None
  pub is : new ≡ with_qcow2 old asked id image

-- the name is free, and there is room for a node
pub record HasRoomForNode (nodes : Nodes) (name : List ℕ) : Type 0 where
  pub free : ¬ HasName nodes.graph name
  pub room : length nodes.graph.nodes ≢ 64

-- and the edges keep the permission rule
pub record MayBeAdded (nodes : Nodes) (asked : Asked) : Type 0 where
  pub place : HasRoomForNode nodes asked.name
  pub allowed : IsAllowed nodes (kind_with kinds.Qcow2 asked.is_read_only) (edges_for asked)

-- what stops the addition; each of these comes only where none before it does
abbrev pub IsQcow2Stop : Nodes → Nodes → Asked → AddStop → Type 0
IsQcow2Stop old new asked stops.NameTaken = HasName old.graph asked.name × (new ≡ old)
IsQcow2Stop old new asked stops.TooManyNodes =
    (length old.graph.nodes ≡ 64) × ¬ HasName old.graph asked.name × (new ≡ old)
IsQcow2Stop old new asked (stops.Conflict pair) = HasRoomForNode old asked.name
    × IsDenied old (kind_with kinds.Qcow2 asked.is_read_only) (edges_for asked) pair × (new ≡ old)
IsQcow2Stop old new asked stop = MayBeAdded old asked
    × IsOpening old.devices new.devices asked.file asked.backing (backing_size old asked.backing)
    stop

-- a qcow2 node maps no cluster
pub record IsFresh (nodes : Nodes) (node : ℕ) : Type 0 where
  pub row : Row
  pub image : Known
  pub there : row_at nodes node ≡ Some row
  pub driver : row.driver ≡ Qcow2 image
  pub empty : (cluster : ℕ) → cluster < clusters_in image
      → entry_in image cluster ≡ entries.Unallocated
