-- Nodes from which a path of edges leads to one node, as they are marked step by step.
use Rattle.std.specs.Prelude.{◌≡◌, ◌<◌, ℕ, ◌==◌, Bool, false, ◌&&◌, ◌||◌, List, slice_index_or}
use Rattle.blk_graph.specs.declared.edge.Edge.{Edge}
use Rattle.blk_graph.specs.declared.edge.Parent.TheVariants.{Node}
use Rattle.blk_graph.specs.Edges.{same_parent}
use Rattle.qmp_rules.specs.Chains.{leads}

-- the edge comes from the node, and leads to the end or to a node from where so many steps do
abbrev pub leads_by : ℕ → List Edge → ℕ → ℕ → Edge → Bool
leads_by steps edges from to edge =
    same_parent edge.parent (Node from) && ((edge.child == to) || leads steps edges edge.child to)

-- the marks of the ids below 64
abbrev pub IsMarked : (ℕ → Bool) → List Bool → Type 0
IsMarked test marks = (id : ℕ) → id < 64 → slice_index_or marks id false ≡ test id
