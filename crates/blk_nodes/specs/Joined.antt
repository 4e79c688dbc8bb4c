-- How the rows, the edges and the devices of the nodes belong together.
use Rattle.std.specs.Prelude.{◌≡◌, ◌≢◌, ℕ, ◌+◌, ◌≤◌, List, length, AllPairs, Some, IsSome}
use Rattle.blk_graph.specs.Graph.{HasNode, IsSoundGraph}
use Rattle.blk_graph.specs.Refreshed.{kind_at}
use Rattle.q2_image.specs.Image.{Known, IsImageOf, IsOpen}
use Rattle.blk_nodes.specs.Nodes.{Nodes, DeviceSeen, row_at, device_in, node_size, file_of, backing_of, filtered_of, node_kind}
use Rattle.blk_nodes.specs.declared.row.Driver.{Driver}
use Rattle.blk_nodes.specs.declared.row.Driver.TheVariants.{File, Raw, Qcow2, CopyOnRead, Filter}
use Rattle.blk_nodes.specs.declared.row.Row.{Row}

-- a node is one over a device
pub record IsFile (nodes : Nodes) (node : ℕ) : Type 0 where
  pub row : Row
  pub there : row_at nodes node ≡ Some row
  pub driver : row.driver ≡ File

-- a node has a disk of this size
pub record HasSize (nodes : Nodes) (node size : ℕ) : Type 0 where
  pub row : Row
  pub there : row_at nodes node ≡ Some row
  pub is : row.size ≡ size

pub record IsPartOfFile (nodes : Nodes) (node offset size : ℕ) : Type 0 where
  pub file : ℕ
  pub edge : file_of nodes node ≡ Some file
  pub is_file : IsFile nodes file
  pub within : offset + size ≤ node_size nodes file

pub record IsOverlay (nodes : Nodes) (node : ℕ) (image : Known) : Type 0 where
  pub file : ℕ
  pub edge : file_of nodes node ≡ Some file
  pub is_file : IsFile nodes file
  pub opened : IsOpen image
  -- what is known of the image is so of the file, where that is told
  pub known : (device : DeviceSeen) (bytes : List ℕ) → device_in nodes.devices file ≡ Some device
      → device.content ≡ Some bytes → IsImageOf bytes image
  -- the backing node's disk has the same size
  pub backing : (node' : ℕ) → backing_of nodes node ≡ Some node'
      → HasSize nodes node' image.header.size

pub record IsCopying (nodes : Nodes) (node size : ℕ) : Type 0 where
  pub child : ℕ
  pub edge : file_of nodes node ≡ Some child
  pub same : HasSize nodes child size

-- the child of a job's filter, where it has one, has its size
abbrev pub IsFiltering : Nodes → ℕ → ℕ → Type 0
IsFiltering nodes node size =
    (child : ℕ) → filtered_of nodes node ≡ Some child → HasSize nodes child size

-- what a node needs below it
abbrev pub HasBelow : Nodes → ℕ → ℕ → Driver → Type 0
HasBelow nodes node size File = IsSome (device_in nodes.devices node)
HasBelow nodes node size (Raw part) = IsPartOfFile nodes node part.offset part.size
HasBelow nodes node size (Qcow2 image) = IsOverlay nodes node image
HasBelow nodes node size CopyOnRead = IsCopying nodes node size
HasBelow nodes node size (Filter kind) = IsFiltering nodes node size

-- a node's size is what its driver says, and all sums of places fit
abbrev pub IsSized : ℕ → Driver → Type 0
IsSized size File = Unit {0}
IsSized size (Raw part) = (part.size ≡ size) × (part.offset + size ≤ 9223372036854775808)
IsSized size (Qcow2 image) = image.header.size ≡ size
IsSized size CopyOnRead = Unit {0}
IsSized size (Filter kind) = Unit {0}

-- two devices are of different nodes
abbrev pub DifferInNode : DeviceSeen → DeviceSeen → Type 0
DifferInNode a b = a.node ≢ b.node

-- what is true of all nodes at each moment
pub record IsJoined (nodes : Nodes) : Type 0 where
  pub rows : length nodes.rows ≡ 64
  pub sound : IsSoundGraph nodes.graph
  pub kinds : (node : ℕ) (row : Row) → row_at nodes node ≡ Some row
      → kind_at nodes.graph.kinds node ≡ node_kind row
  pub there : (node : ℕ) → HasNode nodes.graph node → IsSome (row_at nodes node)
  pub only : (node : ℕ) → IsSome (row_at nodes node) → HasNode nodes.graph node
  pub sized : (node : ℕ) (row : Row) → row_at nodes node ≡ Some row → IsSized row.size row.driver
  pub below : (node : ℕ) (row : Row) → row_at nodes node ≡ Some row
      → HasBelow nodes node row.size row.driver
  -- one device for each `file` node, and none besides
  pub devices : (node : ℕ) → IsSome (device_in nodes.devices node) → IsFile nodes node
  pub once : AllPairs DifferInNode nodes.devices
