-- Deletions: which nodes may go, and what is left.
use Rattle.std.specs.Prelude.{◌≡◌, ℕ, true, List, IsTrue, Contains, Option, Some, None, Bool, false}
use Rattle.blk_base.specs.Files.{is_out}
use Rattle.blk_graph.specs.declared.edge.Edge.{Edge}
use Rattle.blk_graph.specs.declared.edge.Parent.TheVariants.{Node}
use Rattle.blk_graph.specs.Graph.{HasNode}
use Rattle.blk_graph.specs.Judged.{first_parent}
use Rattle.blk_nodes.specs.Dropping.{nodes_without}
use Rattle.blk_nodes.specs.Nodes.{DeviceSeen, device_in}
use Rattle.qmp_rules.specs.Changes.{changed}
use Rattle.qmp_rules.specs.Table.{RunTable, node_named, node_by_id, first_into}
use Rattle.qmp_rules.specs.declared.rows.NodeRecord.{NodeRecord}
use Rattle.qmp_rules.specs.declared.change.Change.TheVariants.{RemoveNode}
use Rattle.flat_machine.specs.Wiring.{HaveDistinctIds}
use Rattle.world_parts.specs.Coherent.{AreNodesOf, AreOut}
use Rattle.world_parts.specs.Face.{WorldSeen}
use Rattle.world_parts.specs.Deleting.{Ground, IsDeleted, ground_of, left, name_under}
use Rattle.blk_bitmaps.specs.declared.row.Bitmap.{Bitmap}
use Rattle.qmp_codec.specs.Commands.{Cmd}
use Rattle.qmp_codec.specs.declared.command.Command.TheVariants as command
use Rattle.qmp_rules.specs.declared.refusal.Refusal.{Refusal}
use Rattle.world_parts.specs.Handling.{bitmaps_deleted}

-- ---- a store, and the nodes over its files

-- no edge leads to the node, and its device is out under its file's name
pub record CanLeave (t : RunTable) (x : Ground) (node : ℕ) : Type 0 where
  pub there : HasNode x.nodes.graph node
  pub lone : first_parent node x.nodes.graph.edges ≡ None
  pub out : (device : DeviceSeen) → device_in x.nodes.devices node ≡ Some device
      → IsTrue (is_out (name_under t node) x.store.opened)

-- ---- a world

-- a node goes, from the table too
abbrev pub after_deletion : ℕ → WorldSeen → WorldSeen
after_deletion node w = record w {
  files = (left w.table node (ground_of w)).store.files;
  opened = (left w.table node (ground_of w)).store.opened;
  nodes = nodes_without node w.nodes;
  table = changed w.table (RemoveNode node);
}

-- ---- deletions

-- a `file` node that was made with another one is under that alone
pub record IsOnlyUnder (t : RunTable) (row : NodeRecord) (over : ℕ) : Type 0 where
  pub edge : Edge
  pub there : Contains t.edges edge
  pub child : edge.child ≡ row.id
  pub sole : (other : Edge) → Contains t.edges other → other.child ≡ row.id
      → other.parent ≡ Node over

-- how the table, the nodes and the openings belong together
pub record Belong (t : RunTable) (x : Ground) : Type 0 where
  pub alike : AreNodesOf t x.nodes
  pub apart : HaveDistinctIds t
  pub inline : (row : NodeRecord) (over : ℕ) → Contains t.nodes row → row.made_with ≡ Some over
      → IsOnlyUnder t row over
  pub out : AreOut t x.nodes x.store.opened

-- the node of that name is there, and no edge leads to it
pub record Deletes (t : RunTable) (name : List ℕ) : Type 0 where
  pub row : NodeRecord
  pub found : node_named t name ≡ Some row
  pub lone : first_into row.id t.edges ≡ None

-- a node of the table that no edge leads to
pub record IsLoneNode (t : RunTable) (node : ℕ) : Type 0 where
  pub row : NodeRecord
  pub there : node_by_id t node ≡ Some row
  pub lone : first_into node t.edges ≡ None

-- ---- deletions

abbrev pub is_deletion : Cmd → Bool
is_deletion (command.BlockdevDel name) = true
is_deletion c = false

abbrev pub IsDeletedBy : RunTable → Cmd → Ground → Ground → Type 0
IsDeletedBy t (command.BlockdevDel name) old now = IsDeleted t name old now
IsDeletedBy t c old now = ⊥

-- ---- guests' devices

-- accepted, these are left; refused, all
abbrev pub bitmaps_left : Option Refusal → RunTable → Cmd → List Bitmap → List Bitmap
bitmaps_left None t c bitmaps = bitmaps_deleted t c bitmaps
bitmaps_left (Some cause) t c bitmaps = bitmaps
