-- What an addition makes of the nodes, and why one is refused.
use Rattle.std.specs.Prelude.{◌≡◌, ℕ, Bool, false, not, List, [], ◌∷◌, ◌++◌, length, slice_set, Option, Some, None}
use Rattle.blk_graph.specs.Edits.{with_edge, without_parent}
use Rattle.blk_graph.specs.Graph.{Graph, HasName, ids, with_node}
use Rattle.blk_graph.specs.Ids.{IsLowestFree}
use Rattle.blk_graph.specs.Judged.{with_edges}
use Rattle.blk_graph.specs.Permissions.{drive_edge, node_edge}
use Rattle.blk_graph.specs.Refreshed.{refreshed}
use Rattle.blk_graph.specs.Rule.{first_conflict}
use Rattle.blk_graph.specs.declared.kind.Kind.{Kind}
use Rattle.blk_graph.specs.declared.kind.NodeKind.{NodeKind}
use Rattle.blk_graph.specs.declared.edge.Conflict.{Conflict as Pair}
use Rattle.blk_graph.specs.declared.edge.Edge.{Edge}
use Rattle.blk_graph.specs.declared.edge.Parent.TheVariants.{Guest}
use Rattle.blk_graph.specs.declared.edge.Role.TheVariants.{File}
use Rattle.blk_nodes.specs.Nodes.{Nodes, DeviceSeen, row_at, node_kind}
use Rattle.blk_base.specs.Pieces.{Extent}
use Rattle.blk_nodes.specs.declared.row.Driver.TheVariants.{Raw, Filter}
use Rattle.blk_nodes.specs.declared.row.FilterKind.{FilterKind}
use Rattle.blk_nodes.specs.declared.row.Row.{Row}
use Rattle.blk_nodes.specs.declared.stop.AddStop.{AddStop}
use Rattle.blk_nodes.specs.declared.stop.AddStop.TheVariants.{NameTaken, TooManyNodes, Conflict, NoMemory}

-- one more node with its row
abbrev pub with_node_row : Nodes → ℕ → List ℕ → Row → Nodes
with_node_row nodes id name row = record nodes {
  graph = with_node nodes.graph id name (node_kind row);
  rows = slice_set nodes.rows id (Some row);
}

-- the row of a part of a file
abbrev pub raw_row : Extent → Bool → Row
raw_row part is_read_only = record {
  driver = Raw (record { offset = part.start; size = part.len });
  size = part.len;
  is_read_only = is_read_only;
}

-- the row of a job's filter
abbrev pub filtering_row : FilterKind → ℕ → Bool → Row
filtering_row kind size is_read_only = record {
  driver = Filter kind;
  size = size;
  is_read_only = is_read_only;
}

-- what a node is, by its driver's kind and whether it may be written
abbrev pub kind_with : Kind → Bool → NodeKind
kind_with kind is_read_only = record { kind = kind; writes = not is_read_only }

-- and its device
abbrev pub with_node_device : Nodes → DeviceSeen → Nodes
with_node_device nodes device = record nodes { devices = nodes.devices ++ device ∷ [] }

-- no node of this name can be added
abbrev pub IsNameStop : Graph → List ℕ → AddStop → Type 0
IsNameStop graph name NameTaken = HasName graph name
IsNameStop graph name TooManyNodes = (length graph.nodes ≡ 64) × ¬ HasName graph name
IsNameStop graph name _ = ⊥

-- the edge of a node over a file
abbrev pub file_edge : ℕ → ℕ → Edge
file_edge node file = node_edge node File file

-- one more edge, from which what others ask and share is derived
abbrev pub with_below : Nodes → Edge → Nodes
with_below nodes edge =
    record nodes { graph = with_edges nodes.graph (with_edge edge nodes.graph.edges) }

-- the first broken pair, if there is one, of the edges that a new node would make
pub record Breaks (nodes : Nodes) (kind : NodeKind) (edges : ℕ → List Edge → List Edge)
    (found : Option Pair) : Type 0 where
  pub id : ℕ
  pub lowest : IsLowestFree (ids nodes.graph) id
  pub first : first_conflict (ids nodes.graph ++ id ∷ [])
      (refreshed (slice_set nodes.graph.kinds id kind) (edges id nodes.graph.edges)) ≡ found

-- they break the permission rule with that pair first, or keep it
abbrev pub IsDenied : Nodes → NodeKind → (ℕ → List Edge → List Edge) → Pair → Type 0
IsDenied nodes kind edges pair = Breaks nodes kind edges (Some pair)

abbrev pub IsAllowed : Nodes → NodeKind → (ℕ → List Edge → List Edge) → Type 0
IsAllowed nodes kind edges = Breaks nodes kind edges None

-- the addition of a node over a file is refused for these alone
abbrev pub IsOverStop : AddStop → Type 0
IsOverStop NameTaken = Unit {0}
IsOverStop TooManyNodes = Unit {0}
IsOverStop (Conflict _) = Unit {0}
IsOverStop _ = ⊥

-- the addition of a `file` node is refused for these alone
abbrev pub IsFileStop : AddStop → Type 0
IsFileStop NameTaken = Unit {0}
IsFileStop TooManyNodes = Unit {0}
IsFileStop NoMemory = Unit {0}
IsFileStop _ = ⊥

-- whether a node may not be written; of no node, false
abbrev pub is_read_only_in : Option Row → Bool
is_read_only_in None = false
is_read_only_in (Some row) = row.is_read_only

-- the edge of a guest's drive, which writes where the node may be written
abbrev pub guest_edge : Nodes → ℕ → ℕ → Bool → Edge
guest_edge nodes guest node share_rw =
    drive_edge guest node (not (is_read_only_in (row_at nodes node))) share_rw

-- the nodes without a guest's edges
abbrev pub without_guest : ℕ → Nodes → Nodes
without_guest guest nodes =
    record nodes { graph = with_edges nodes.graph (without_parent (Guest guest) nodes.graph.edges) }
