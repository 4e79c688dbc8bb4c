-- Nodes that no filter is, and the edges of chains.
use Rattle.std.specs.Prelude.{◌≡◌, ◌⊎◌, ℕ, Bool, true, false, ◌&&◌, List}
use Rattle.blk_graph.specs.declared.edge.Edge.{Edge}
use Rattle.blk_graph.specs.declared.edge.Parent.{Parent}
use Rattle.blk_graph.specs.declared.edge.Parent.TheVariants.{Node, Guest, Job}
use Rattle.blk_graph.specs.declared.edge.Role.TheVariants.{Backing}
use Rattle.blk_graph.specs.declared.kind.Kind.{Kind}
use Rattle.blk_graph.specs.declared.kind.Kind.TheVariants.{Protocol, Raw, Qcow2}
use Rattle.blk_graph.specs.declared.kind.NodeKind.{NodeKind}
use Rattle.blk_graph.specs.Edges.{same_role}
use Rattle.blk_graph.specs.Refreshed.{kind_at, uses_into}

-- an edge lets others read, and want unchanged what is read
pub record SharesReads (edge : Edge) : Type 0 where
  pub read : edge.shared.read ≡ true
  pub unchanged : edge.shared.unchanged ≡ true

-- a node that is no filter
abbrev pub is_plain : Kind → Bool
is_plain Protocol = true
is_plain Raw = true
is_plain Qcow2 = true
is_plain kind = false

-- A node that is read, and is no filter: what its own edges ask and share doesn't rest on the edges into it.
pub record IsReadPlain (kinds : List NodeKind) (edges : List Edge) (node : ℕ) : Type 0 where
  pub plain : is_plain (kind_at kinds node).kind ≡ true
  pub read : (uses_into edges node).perm.read ≡ true

-- an edge to its backing node of one of these nodes
abbrev pub is_one : (ℕ → Bool) → Parent → Bool
is_one nodes (Node n) = nodes n
is_one nodes (Guest n) = false
is_one nodes (Job n) = false

abbrev pub is_to_backing : (ℕ → Bool) → Edge → Bool
is_to_backing nodes edge = same_role edge.role Backing && is_one nodes edge.parent

-- a node of the chain below its top
abbrev pub IsBelow : (ℕ → Bool) → ℕ → ℕ → Type 0
IsBelow through base n = (through n ≡ true) ⊎ (n ≡ base)
