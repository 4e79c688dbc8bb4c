-- What a contract sees of the nodes: their graph, what each of them is, and the devices that they hold.
use Rattle.std.specs.Prelude.{◌≡◌, ℕ, Bool, List, [], ◌==◌, slice_index_or, replicate, find, Option, Some, None, is_some, true, not, Contains}
use Rattle.blk_base.specs.Content.{Log}
use Rattle.blk_base.specs.declared.device.DeviceCall.{DeviceCall}
use Rattle.blk_base.specs.declared.fault.DevNo.{DevNo}
use Rattle.blk_graph.specs.Graph.{Graph, no_graph}
use Rattle.blk_graph.specs.Edits.{child_of}
use Rattle.blk_graph.specs.declared.edge.Parent.TheVariants.{Node}
use Rattle.blk_graph.specs.declared.edge.Role.TheVariants.{File as FileRole, Backing, Filtered}
use Rattle.blk_graph.specs.declared.kind.Kind.{Kind}
use Rattle.blk_graph.specs.declared.kind.Kind.TheVariants as kinds
use Rattle.blk_graph.specs.declared.kind.NodeKind.{NodeKind}
use Rattle.blk_nodes.specs.declared.row.Driver.{Driver}
use Rattle.blk_nodes.specs.declared.row.Driver.TheVariants.{File, Raw, Qcow2, CopyOnRead, Filter}
use Rattle.blk_nodes.specs.declared.row.FilterKind.{FilterKind}
use Rattle.blk_nodes.specs.declared.row.FilterKind.TheVariants as filters
use Rattle.blk_nodes.specs.declared.row.Row.{Row}

-- the device of a `file` node: its number among the openings of the run, and what is seen of it
pub record DeviceSeen : Type 0 where
  pub node : ℕ
  pub number : DevNo
  pub content : Option (List ℕ)
  pub is_flushed : Option Bool
  pub log : Option Log
  pub size : ℕ
  pub capacity : ℕ
  pub faults : ℕ
  pub failed_call : Option DeviceCall

-- what the filter of a job is, and what a node is, as far as the permissions of its edges go
abbrev pub filter_kind : FilterKind → Kind
filter_kind filters.BeforeWrite = kinds.BeforeWrite
filter_kind filters.Mirror = kinds.Mirror
filter_kind filters.Commit = kinds.Commit

abbrev pub driver_kind : Driver → Kind
driver_kind File = kinds.Protocol
driver_kind (Raw _) = kinds.Raw
driver_kind (Qcow2 _) = kinds.Qcow2
driver_kind CopyOnRead = kinds.CopyOnRead
driver_kind (Filter kind) = filter_kind kind

abbrev pub kind_in : Row → Kind
kind_in row = driver_kind row.driver

abbrev pub node_kind : Row → NodeKind
node_kind row = record { kind = driver_kind row.driver; writes = not row.is_read_only }

-- the rows stand by the numbers of their nodes, and the devices in the order in which their nodes were added
pub record Nodes : Type 0 where
  pub graph : Graph
  pub rows : List (Option Row)
  pub devices : List DeviceSeen

abbrev pub no_nodes : Nodes
no_nodes = record { graph = no_graph; rows = replicate 64 None; devices = [] }

abbrev pub row_at : Nodes → ℕ → Option Row
row_at nodes node = slice_index_or nodes.rows node None

-- whether a device is that of a node
abbrev pub is_device_of : ℕ → DeviceSeen → Bool
is_device_of node device = device.node == node

abbrev pub device_in : List DeviceSeen → ℕ → Option DeviceSeen
device_in devices node = find (is_device_of node) devices

-- the bytes of a disk, 0 where there is no node
abbrev pub size_by : Option Row → ℕ
size_by None = 0
size_by (Some row) = row.size

abbrev pub node_size : Nodes → ℕ → ℕ
node_size nodes node = size_by (row_at nodes node)

-- the `file` node under a node, its backing node, and what it is the filter of
abbrev pub file_of : Nodes → ℕ → Option ℕ
file_of nodes node = child_of (Node node) FileRole nodes.graph.edges

abbrev pub backing_of : Nodes → ℕ → Option ℕ
backing_of nodes node = child_of (Node node) Backing nodes.graph.edges

abbrev pub filtered_of : Nodes → ℕ → Option ℕ
filtered_of nodes node = child_of (Node node) Filtered nodes.graph.edges

-- the device of a `file` node tells its bytes
abbrev pub IsFileTold : List DeviceSeen → ℕ → Type 0
IsFileTold devices file = (device : DeviceSeen) → device_in devices file ≡ Some device
    → is_some device.content ≡ true

-- each device tells its bytes
abbrev pub AreTold : List DeviceSeen → Type 0
AreTold devices = (device : DeviceSeen) → Contains devices device → is_some device.content ≡ true
