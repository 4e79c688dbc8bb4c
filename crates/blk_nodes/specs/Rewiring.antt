-- Edges and kinds of nodes that were judged elsewhere, and what the nodes need of them.
use Rattle.std.specs.Prelude.{◌≡◌, ℕ, zero, suc, not, List, [], Option, Some, None, option_map, slice_index_or, slice_set}
use Rattle.blk_graph.specs.Edits.{child_of}
use Rattle.blk_graph.specs.Graph.{IsSoundGraph}
use Rattle.blk_graph.specs.Refreshed.{kind_at}
use Rattle.blk_graph.specs.declared.edge.Edge.{Edge}
use Rattle.blk_graph.specs.declared.edge.Parent.TheVariants.{Node}
use Rattle.blk_graph.specs.declared.edge.Role.{Role}
use Rattle.blk_graph.specs.declared.kind.NodeKind.{NodeKind}
use Rattle.blk_nodes.specs.Contents.{disk_by}
use Rattle.blk_nodes.specs.Jobs.{with_read_only}
use Rattle.blk_nodes.specs.Joined.{HasBelow}
use Rattle.blk_nodes.specs.Nodes.{Nodes, row_at, driver_kind}
use Rattle.blk_nodes.specs.declared.row.Row.{Row}

-- the first rows may be written as these kinds say
unfoldable pub rows_by : ℕ → List NodeKind → List (Option Row) → List (Option Row)
rows_by zero kinds rows = rows
rows_by (suc n) kinds rows =
    let before : List (Option Row) = rows_by n kinds rows
    in slice_set before n
    (option_map (with_read_only (not (kind_at kinds n).writes)) (slice_index_or before n None))

-- the nodes with other edges, where these kinds say which may be written
abbrev pub rewired : List NodeKind → List Edge → Nodes → Nodes
rewired kinds edges nodes = record nodes {
  graph = record nodes.graph { kinds = kinds; edges = edges };
  rows = rows_by 64 kinds nodes.rows;
}

-- each node stays of its kind
abbrev pub AreKindsKept : Nodes → List NodeKind → Type 0
AreKindsKept nodes kinds = (node : ℕ) (row : Row) → row_at nodes node ≡ Some row
    → (kind_at kinds node).kind ≡ driver_kind row.driver

-- a graph may have the edges, and each node has below it what it needs
pub record IsWiring (nodes : Nodes) (kinds : List NodeKind) (edges : List Edge) : Type 0 where
  pub sound : IsSoundGraph (record nodes.graph { kinds = kinds; edges = edges })
  pub alike : AreKindsKept nodes kinds
  pub below : (node : ℕ) (row : Row) → row_at nodes node ≡ Some row
      → HasBelow (rewired kinds edges nodes) node row.size row.driver

-- each node keeps its children
abbrev pub AreChildrenKept : List Edge → List Edge → Type 0
AreChildrenKept old new =
    (node : ℕ) (role : Role) → child_of (Node node) role new ≡ child_of (Node node) role old

-- these disks go with the nodes: each is made of those below it, and where there is no node there is none
pub record AreReadings (nodes : Nodes) (reads : ℕ → List ℕ) : Type 0 where
  pub each : (node : ℕ) (row : Row) → row_at nodes node ≡ Some row
      → reads node ≡ disk_by nodes reads node row.driver
  pub none : (node : ℕ) → row_at nodes node ≡ None → reads node ≡ []
