-- What is left where a node goes.
use Rattle.std.specs.Prelude.{ℕ, List, filter, not, slice_set, None}
use Rattle.blk_graph.specs.Judged.{without_node}
use Rattle.blk_nodes.specs.Nodes.{Nodes, DeviceSeen, is_device_of}

-- the devices but a node's
abbrev pub other_devices : ℕ → List DeviceSeen → List DeviceSeen
other_devices node devices = filter (λ device. not (is_device_of node device)) devices

-- the nodes but one, which goes with its edges and its device
abbrev pub nodes_without : ℕ → Nodes → Nodes
nodes_without node nodes = record {
  graph = without_node node nodes.graph;
  rows = slice_set nodes.rows node None;
  devices = other_devices node nodes.devices;
}
