-- What a contract sees of a graph.
use Rattle.std.specs.Prelude.{◌≡◌, ℕ, Bool, ◌-◌, ◌<◌, ◌≤◌, List, [], ◌∷◌, ◌++◌, length, map, replicate, slice_set, AllPairs, Contains, nat_eq}
use Rattle.std.specs.List.{IsDistinct}
use Rattle.blk_graph.specs.declared.edge.Edge.{Edge}
use Rattle.blk_graph.specs.declared.edge.Parent.{Parent}
use Rattle.blk_graph.specs.declared.edge.Parent.TheVariants.{Node, Guest, Job}
use Rattle.blk_graph.specs.declared.kind.NodeKind.{NodeKind}
use Rattle.blk_graph.specs.Edges.{DifferInPlace}
use Rattle.blk_graph.specs.Paths.{IsAcyclic, IsPath}
use Rattle.blk_graph.specs.Refreshed.{no_kind, kind_at, IsByTable, IsRefreshed}
use Rattle.blk_graph.specs.Rule.{KeepsPermissions}

-- a node, and its name as bytes
pub record NodeRow : Type 0 where
  pub id : ℕ
  pub name : List ℕ

-- the nodes in order of addition, what each of them is by its id, and the edges in order of making
pub record Graph : Type 0 where
  pub nodes : List NodeRow
  pub kinds : List NodeKind
  pub edges : List Edge

abbrev pub ids : Graph → List ℕ
ids graph = map (λ row. row.id) graph.nodes

-- no node and no edge
abbrev pub no_graph : Graph
no_graph = record { nodes = []; kinds = replicate 64 no_kind; edges = [] }

-- one more node
abbrev pub with_node : Graph → ℕ → List ℕ → NodeKind → Graph
with_node graph id name kind = record graph {
  nodes = graph.nodes ++ record { id = id; name = name } ∷ [];
  kinds = slice_set graph.kinds id kind;
}

-- what the nodes are, where one may be written or not
abbrev pub with_writes : ℕ → Bool → List NodeKind → List NodeKind
with_writes node writes kinds =
    let kind : NodeKind = kind_at kinds node in
    slice_set kinds node (record kind { writes = writes })

-- it is a node of the graph
abbrev pub HasNode : Graph → ℕ → Type 0
HasNode graph node = Contains (ids graph) node

-- a node that makes edges is one of the graph's; there are 80 guests and 16 jobs at most
abbrev pub HasParent : Graph → Parent → Type 0
HasParent graph (Node node) = HasNode graph node
HasParent graph (Guest guest) = guest < 80
HasParent graph (Job job) = job < 16

-- a node of the graph has this name
abbrev pub HasName : Graph → List ℕ → Type 0
HasName graph name = Contains (map (λ row. row.name) graph.nodes) name

-- no two nodes have the same name
abbrev pub DifferentNames : List NodeRow → Type 0
DifferentNames nodes =
    (a b : NodeRow) → Contains nodes a → Contains nodes b → a.name ≡ b.name → a.id ≡ b.id

-- an edge that may stand in a graph
pub record FitsIn (graph : Graph) (edge : Edge) : Type 0 where
  pub parent : HasParent graph edge.parent
  pub child : HasNode graph edge.child
  pub table : IsByTable graph.kinds edge

-- each edge may stand in the graph, and those of one parent differ
pub record IsFit (graph : Graph) (edges : List Edge) : Type 0 where
  pub each : (edge : Edge) → Contains edges edge → FitsIn graph edge
  pub places : AllPairs DifferInPlace edges

-- each of a graph's edges is as those into its parent say, and all keep the permission rule
pub record IsJust (kinds : List NodeKind) (edges : List Edge) : Type 0 where
  pub acyclic : IsAcyclic edges
  pub refreshed : IsRefreshed kinds edges
  pub rule : KeepsPermissions edges

-- what is true of every graph
pub record IsSoundGraph (graph : Graph) : Type 0 where
  pub different_nodes : IsDistinct nat_eq (ids graph)
  pub different_names : DifferentNames graph.nodes
  pub few_nodes : length graph.nodes ≤ 64
  pub small : (id : ℕ) → HasNode graph id → id < 64
  pub kinds : length graph.kinds ≡ 64
  pub vacant : (id : ℕ) → (HasNode graph id → ⊥) → kind_at graph.kinds id ≡ no_kind
  pub fit : IsFit graph graph.edges
  pub just : IsJust graph.kinds graph.edges

-- no path has more edges than there are nodes beside its first
abbrev pub PathsAreShort : Graph → Type 0
PathsAreShort graph = (from to : ℕ) (path : List Edge) → IsPath graph.edges from path to
    → length path ≤ length graph.nodes - 1
