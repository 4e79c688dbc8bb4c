-- What a node reads as: its disk, from the bytes of the devices and the edges of the graph.
use Rattle.std.specs.Prelude.{◌≡◌, ℕ, zero, suc, List, [], replicate, Option, Some, None}
use Rattle.q2_format.specs.Contents.{file_disk, raw_disk, image_disk}
use Rattle.blk_nodes.specs.Nodes.{Nodes, DeviceSeen, AreTold, row_at, device_in, node_size, file_of, backing_of, filtered_of}
use Rattle.blk_nodes.specs.declared.row.Driver.{Driver}
use Rattle.blk_nodes.specs.declared.row.Row.{Row}
use Rattle.blk_nodes.specs.declared.row.Driver.TheVariants.{File, Raw, Qcow2, CopyOnRead, Filter}

abbrev pub told : Option (List ℕ) → List ℕ
told None = []
told (Some bytes) = bytes

abbrev pub bytes_by : Option DeviceSeen → List ℕ
bytes_by None = []
bytes_by (Some device) = told device.content

-- the bytes of a `file` node's device
abbrev pub bytes_of : Nodes → ℕ → List ℕ
bytes_of nodes file = bytes_by (device_in nodes.devices file)

-- the disk of a `file` node: the first bytes of the file, zeros past its end
abbrev pub file_node_disk : Nodes → ℕ → List ℕ
file_node_disk nodes file = file_disk (node_size nodes file) (bytes_of nodes file)

-- what is below, where there is a node
abbrev pub disk_under : (ℕ → List ℕ) → Option ℕ → List ℕ
disk_under disk None = []
disk_under disk (Some node) = disk node

-- the disk of so many bytes below a job's filter, zeros while it has no child
abbrev pub disk_through : ℕ → (ℕ → List ℕ) → Option ℕ → List ℕ
disk_through size disk None = replicate size 0
disk_through size disk (Some node) = disk node

-- A `raw` node is its part of the `file` node, a qcow2 node the image in the file over the disk of its backing node, and
-- copy-on-read and a job's filter read as their child.
abbrev pub disk_by : Nodes → (ℕ → List ℕ) → ℕ → Driver → List ℕ
disk_by nodes disk node File = file_node_disk nodes node
disk_by nodes disk node (Raw part) =
    raw_disk part.offset part.size (disk_under (file_node_disk nodes) (file_of nodes node))
disk_by nodes disk node (Qcow2 image) =
    image_disk (disk_under (bytes_of nodes) (file_of nodes node))
    (disk_under disk (backing_of nodes node))
disk_by nodes disk node CopyOnRead = disk_under disk (file_of nodes node)
disk_by nodes disk node (Filter kind) =
    disk_through (node_size nodes node) disk (filtered_of nodes node)

-- the disk of a node, down a chain of so many nodes
abbrev pub disk_down : ℕ → Nodes → ℕ → List ℕ
disk_down zero nodes node = []
disk_down (suc turns) nodes node = elim (row_at nodes node) as (λ _. List ℕ) [
  | None ↦ []
  | Some row ↦ disk_by nodes (disk_down turns nodes) node row.driver
]

-- there are at most 64 nodes, and no node reaches itself
unfoldable pub disk_of : Nodes → ℕ → List ℕ
disk_of nodes node = disk_down 64 nodes node

-- the disk of a node, where all devices tell their bytes
abbrev pub IsToldDisk : Nodes → ℕ → List ℕ → Type 0
IsToldDisk nodes node disk = AreTold nodes.devices × (disk ≡ disk_of nodes node)

-- the disk of each node is made of the disks below it
abbrev pub Unfolds : Nodes → Type 0
Unfolds nodes = (node : ℕ) (row : Row) → row_at nodes node ≡ Some row
    → disk_of nodes node ≡ disk_by nodes (disk_of nodes) node row.driver
