-- What is left of a world in which a node goes.
use Rattle.std.specs.Prelude.{◌≡◌, ℕ, true, List, [], ◌∷◌, find, Option, Some, None, is_some, option_map, unwrap_or}
use Rattle.blk_base.specs.Files.{given_back}
use Rattle.blk_base.specs.Stored.{files_with_returned}
use Rattle.blk_base.specs.declared.file.CallOnFile.{CallOnFile}
use Rattle.blk_base.specs.declared.file.File.{File}
use Rattle.blk_base.specs.declared.file.Opened.{Opened}
use Rattle.blk_graph.specs.Graph.{HasNode}
use Rattle.blk_nodes.specs.Contents.{disk_of, Unfolds}
use Rattle.blk_nodes.specs.Dropping.{nodes_without}
use Rattle.blk_nodes.specs.Joined.{IsJoined}
use Rattle.blk_nodes.specs.Nodes.{Nodes, DeviceSeen, device_in}
use Rattle.qmp_rules.specs.Edits.{goes_with_node}
use Rattle.qmp_rules.specs.Table.{RunTable, node_named}
use Rattle.qmp_rules.specs.declared.rows.NodeRecord.{NodeRecord}
use Rattle.flat_machine.specs.State.{filename_of}
use Rattle.world_parts.specs.Face.{WorldSeen}
use Rattle.world_parts.specs.Steps.{StoreSeen, seen_store, seen_in_run}
use Rattle.world_parts.specs.Stores.{StoreInRun}

-- the name of the file that a `file` node stands for; of another node, none
abbrev pub name_under : RunTable → ℕ → List ℕ
name_under t node = unwrap_or (filename_of t node) []

-- a device that tells its bytes tells whether it is flushed
abbrev pub TellsFlush : Option DeviceSeen → Type 0
TellsFlush None = Unit {0}
TellsFlush (Some device) = is_some device.content ≡ true → is_some device.is_flushed ≡ true

-- the store once a device is back, where there is one
abbrev pub with_back : List ℕ → Option DeviceSeen → StoreSeen → StoreSeen
with_back name None store = store
with_back name (Some device) store = record store {
  files = files_with_returned name device.content device.capacity device.is_flushed store.files;
  opened = given_back name device.faults device.failed_call store.opened;
}

-- ---- a store, and the nodes over its files

pub record Ground : Type 0 where
  pub store : StoreSeen
  pub nodes : Nodes

abbrev pub ground : Option (List File) → List Opened → ℕ → ℕ → Option CallOnFile → Nodes → Ground
ground files opened room faults failed_call nodes = record {
  store = seen_store files opened room faults failed_call;
  nodes = nodes;
}

abbrev pub ground_in : StoreInRun → Nodes → Ground
ground_in store nodes = record { store = seen_in_run store; nodes = nodes }

-- a node goes, and its device is back in its file
abbrev pub left : RunTable → ℕ → Ground → Ground
left t node x = record {
  store = with_back (name_under t node) (device_in x.nodes.devices node) x.store;
  nodes = nodes_without node x.nodes;
}

-- what is known once it has gone
pub record HasLeft (x : Ground) (node : ℕ) : Type 0 where
  pub flush : TellsFlush (device_in x.nodes.devices node)
  pub joined : IsJoined (nodes_without node x.nodes)
  pub unfolds : Unfolds (nodes_without node x.nodes)
  pub disks : (other : ℕ) → HasNode (nodes_without node x.nodes).graph other
      → disk_of (nodes_without node x.nodes) other ≡ disk_of x.nodes other

-- nodes that go one after another
abbrev pub all_left : RunTable → List ℕ → Ground → Ground
all_left t [] x = x
all_left t (node ∷ nodes) x = all_left t nodes (left t node x)

abbrev pub HaveLeft : RunTable → Ground → List ℕ → Type 0
HaveLeft t x [] = Unit {0}
HaveLeft t x (node ∷ nodes) = HasLeft x node × HaveLeft t (left t node x) nodes

-- ---- a world

abbrev pub ground_of : WorldSeen → Ground
ground_of w = ground w.files w.opened w.room w.faults w.failed_call w.nodes

-- the file node that goes with a node, where it was made with it
abbrev pub made_with : RunTable → ℕ → Option ℕ
made_with t id = option_map (λ row. row.id) (find (goes_with_node id) t.nodes)

-- the nodes that go with a node, itself first
abbrev pub with_node_below : ℕ → Option ℕ → List ℕ
with_node_below node None = node ∷ []
with_node_below node (Some file) = node ∷ file ∷ []

abbrev pub going : RunTable → ℕ → List ℕ
going t node = with_node_below node (made_with t node)

-- ---- deletions

-- the node of that name has gone with the file node that was made with it
pub record IsDeleted (t : RunTable) (name : List ℕ) (old now : Ground) : Type 0 where
  pub row : NodeRecord
  pub found : node_named t name ≡ Some row
  pub left_are : now ≡ all_left t (going t row.id) old
  pub each : HaveLeft t old (going t row.id)
