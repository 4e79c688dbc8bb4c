-- The nodes that an addition makes.
use Rattle.std.specs.Prelude.{◌≡◌, ℕ, Bool, List, Option, Some, None}
use Rattle.blk_base.specs.Pieces.{Extent}
use Rattle.blk_graph.specs.Graph.{HasNode, ids}
use Rattle.blk_graph.specs.Ids.{IsLowestFree}
use Rattle.q2_format.specs.Contents.{file_disk, raw_disk, image_disk}
use Rattle.q2_image.specs.Image.{Known}
use Rattle.blk_nodes.specs.Adding.{raw_row}
use Rattle.blk_nodes.specs.Contents.{disk_under, bytes_of, disk_of, told}
use Rattle.blk_nodes.specs.Joined.{IsJoined}
use Rattle.blk_nodes.specs.Nodes.{Nodes, node_size}
use Rattle.blk_nodes.specs.Overlays.{Asked, backing_node, copying_row, qcow2_row, with_children}
use Rattle.blk_nodes.specs.declared.backing.Backing.{Backing}
use Rattle.blk_nodes.specs.declared.backing.Backing.TheVariants.{Unsaid, Null, Node}
use Rattle.blk_nodes.specs.declared.row.Row.{Row}
use Rattle.qmp_codec.specs.declared.nodes.AddQcow2.{AddQcow2}
use Rattle.qmp_codec.specs.declared.nodes.AddRaw.{AddRaw}
use Rattle.qmp_codec.specs.declared.nodes.Added.{Added}
use Rattle.qmp_codec.specs.declared.nodes.Added.TheVariants as added
use Rattle.qmp_codec.specs.declared.nodes.BackingRef.{BackingRef}
use Rattle.qmp_codec.specs.declared.nodes.BackingRef.TheVariants as said
use Rattle.qmp_codec.specs.declared.nodes.FileRef.{FileRef}
use Rattle.qmp_codec.specs.declared.nodes.FileRef.TheVariants as file_ref
use Rattle.qmp_codec.specs.declared.nodes.InlineFile.{InlineFile}
use Rattle.qmp_asks.specs.Naming.{inline_name}
use Rattle.qmp_asks.specs.NodeAsks.{is_read_only}
use Rattle.qmp_rules.specs.Table.{RunTable, id_named, node_named}
use Rattle.qmp_asks.specs.Values.{part_offset, part_size}
use Rattle.qmp_rules.specs.declared.rows.NodeRecord.{NodeRecord}
use Rattle.world_parts.specs.Adding.{Adding, Taken, with_node_of_file}

-- ---- one node more

-- nodes that were there read as before
abbrev pub ReadOn : Nodes → Nodes → Type 0
ReadOn old new = (other : ℕ) → HasNode old.graph other → disk_of new other ≡ disk_of old other

-- a node over a device
pub record IsFileAdded (name : List ℕ) (read_only : Bool) (device : Taken)
    (old new : Nodes) (id : ℕ) : Type 0 where
  pub lowest : IsLowestFree (ids old.graph) id
  pub is : new ≡ with_node_of_file old id name read_only device
  pub disks : ReadOn old new
  pub disk : disk_of new id ≡ file_disk device.size (told device.content)
  pub joined : IsJoined new

-- a node over others, which reads so
pub record HasOver (name : List ℕ) (row : Row) (child : ℕ) (backing : Option ℕ) (bytes : List ℕ)
    (old new : Nodes) (id : ℕ) : Type 0 where
  pub lowest : IsLowestFree (ids old.graph) id
  pub is : new ≡ with_children old id name row child backing
  pub disks : ReadOn old new
  pub disk : disk_of new id ≡ bytes
  pub joined : IsJoined new

abbrev pub HasPart : List ℕ → Bool → ℕ → Extent → Nodes → Nodes → ℕ → Type 0
HasPart name read_only file part old new id =
    HasOver name (raw_row part read_only) file None
    (raw_disk part.start part.len (disk_of old file)) old new id

abbrev pub HasImageNode : Asked → Known → Nodes → Nodes → ℕ → Type 0
HasImageNode asked image old new id =
    HasOver asked.name (qcow2_row image asked.is_read_only) asked.file (backing_node asked.backing)
    (image_disk (bytes_of old asked.file) (disk_under (disk_of old) (backing_node asked.backing)))
    old new id

abbrev pub HasFilter : List ℕ → Bool → ℕ → Nodes → Nodes → ℕ → Type 0
HasFilter name read_only child old new id =
    HasOver name (copying_row (node_size old child) read_only) child None (disk_of old child)
    old new id

-- ---- what a command says of it

-- the part of a file of so many bytes
abbrev pub part_in : AddRaw (List ℕ) → ℕ → Extent
part_in raw length =
    record { start = part_offset raw.offset; len = part_size raw.offset raw.size length }

-- the backing node; a name that no node has is refused
abbrev pub backing_at : Option ℕ → Backing
backing_at None = Null
backing_at (Some node) = Node node

abbrev pub backing_for : RunTable → Option (BackingRef (List ℕ)) → Backing
backing_for t None = Unsaid
backing_for t (Some said.Null) = Null
backing_for t (Some (said.Name name)) = backing_at (id_named t name)

abbrev pub qcow2_asked : RunTable → Adding → AddQcow2 (List ℕ) → ℕ → Asked
qcow2_asked t c qcow2 file = record {
  name = c.node_name;
  file = file;
  backing = backing_for t qcow2.backing;
  is_read_only = is_read_only c.options;
}

-- a `file` node that is made with the node over it
abbrev pub HasInline : Adding → InlineFile (List ℕ) → Taken → Nodes → Nodes → ℕ → Type 0
HasInline c file device old new id =
    IsFileAdded (inline_name c.node_name file.node_name) (is_read_only file.options) device old new
    id

-- ---- the nodes that were made

pub record HasJoined (c : Adding) (file : InlineFile (List ℕ)) (device : Taken) (old new : Nodes)
    (Next : Nodes → ℕ → ℕ → Type 0) : Type 0 where
  pub between : Nodes
  pub under : ℕ
  pub first : HasInline c file device old between under
  pub node : ℕ
  pub next : Next between under node

pub record HasJoinedAt (t : RunTable) (name : List ℕ)
    (Next : NodeRecord → ℕ → Type 0) : Type 0 where
  pub row : NodeRecord
  pub found : node_named t name ≡ Some row
  pub node : ℕ
  pub next : Next row node

abbrev pub HasAddedPart : RunTable → Adding → AddRaw (List ℕ) → FileRef (List ℕ) → Option Taken
    → Nodes → Nodes → Type 0
HasAddedPart t c raw (file_ref.Name name) None old new =
    HasJoinedAt t name
    (λ row node.
    HasPart c.node_name (is_read_only c.options) row.id (part_in raw row.size) old new node)
HasAddedPart t c raw (file_ref.Inline file) (Some device) old new =
    HasJoined c file device old new
    (λ now under node.
    HasPart c.node_name (is_read_only c.options) under (part_in raw device.size) now new node)
HasAddedPart t c raw file out old new = ⊥

abbrev pub HasAddedImage : RunTable → Adding → AddQcow2 (List ℕ) → FileRef (List ℕ) → Option Taken
    → Option Known → Nodes → Nodes → Type 0
HasAddedImage t c qcow2 (file_ref.Name name) None (Some image) old new =
    HasJoinedAt t name (λ row node. HasImageNode (qcow2_asked t c qcow2 row.id) image old new node)
HasAddedImage t c qcow2 (file_ref.Inline file) (Some device) (Some image) old new =
    HasJoined c file device old new
    (λ now under node. HasImageNode (qcow2_asked t c qcow2 under) image now new node)
HasAddedImage t c qcow2 file out image old new = ⊥

abbrev pub HasAddedFile : Adding → Option Taken → Nodes → Nodes → Type 0
HasAddedFile c None old new = ⊥
HasAddedFile c (Some device) old new =
    (id : ℕ) × IsFileAdded c.node_name (is_read_only c.options) device old new id

abbrev pub HasAddedBy : RunTable → Adding → Added (List ℕ) → Option Taken → Option Known
    → Nodes → Nodes → Type 0
HasAddedBy t c (added.File filename) out image old new = HasAddedFile c out old new
HasAddedBy t c (added.Raw raw) out image old new = HasAddedPart t c raw raw.file out old new
HasAddedBy t c (added.Qcow2 qcow2) out image old new =
    HasAddedImage t c qcow2 qcow2.file out image old new
HasAddedBy t c (added.CopyOnRead name) None image old new =
    HasJoinedAt t name
    (λ row node. HasFilter c.node_name (is_read_only c.options) row.id old new node)
HasAddedBy t c driver out image old new = ⊥

abbrev pub HasAdded : RunTable → Adding → Option Taken → Option Known → Nodes → Nodes → Type 0
HasAdded t c out image old new = HasAddedBy t c c.driver out image old new
