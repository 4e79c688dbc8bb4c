-- How a graph keeps its nodes: their names in a slab, the keys of the names by id, and the ids in order of addition. No public
-- clause cites this module.
use Rattle.std.specs.Prelude.{◌≡◌, ℕ, ◌≤◌, List, [], length, map, slice_index, Contains, Some, None}
use Rattle.blk_base.specs.Written.{Written}
use Rattle.slab.specs.Slab.{Slab, get, ContainsKey, slab_len}
use Rattle.blk_graph.specs.declared.edge.Edge.{Edge}
use Rattle.blk_graph.specs.declared.kind.NodeKind.{NodeKind}
use Rattle.blk_graph.specs.Graph.{NodeRow, Graph, IsSoundGraph}

-- the name under a key
abbrev pub name_of : Slab Written → ℕ → List ℕ
name_of names key = elim (get names key) as (λ _. List ℕ) [ None ↦ [] | Some text ↦ text.bytes ]

-- the key of a node's name, by the node's id
abbrev pub key_of : List ℕ → ℕ → ℕ
key_of keys id = slice_index keys id

abbrev pub row_of : Slab Written → List ℕ → ℕ → NodeRow
row_of names keys id = record { id = id; name = name_of names (key_of keys id) }

-- what a contract sees
abbrev pub graph_of : Slab Written → List ℕ → List ℕ → List NodeKind → List Edge → Graph
graph_of names keys order kinds edges = record {
  nodes = map (row_of names keys) order;
  kinds = kinds;
  edges = edges;
}

-- each node has a name
abbrev pub HasNames : Slab Written → List ℕ → List ℕ → Type 0
HasNames names keys order = (id : ℕ) → Contains order id → ContainsKey names (key_of keys id)

-- no two nodes have one key
abbrev pub HaveKeys : List ℕ → List ℕ → Type 0
HaveKeys keys order =
    (a b : ℕ) → Contains order a → Contains order b → key_of keys a ≡ key_of keys b → a ≡ b

-- the keys are those of the slab, and there is room for all that a graph may have
pub record IsKept (names : Slab Written) (keys order : List ℕ) (kinds : List NodeKind)
    (edges : List Edge) (order_room : ℕ)
    : Type 0 where
  pub named : HasNames names keys order
  pub apart : HaveKeys keys order
  pub keys_room : length keys ≡ 64
  pub count : slab_len names ≡ length order
  pub names_room : names.capacity ≡ 64
  pub nodes_fit : 64 ≤ order_room
  pub sound : IsSoundGraph (graph_of names keys order kinds edges)
