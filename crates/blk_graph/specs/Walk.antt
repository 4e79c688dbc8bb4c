-- The walk that looks for a path: one mark for each node that it has come to.
use Rattle.std.specs.Prelude.{◌≡◌, ℕ, ◌==◌, Bool, true, false, ◌&&◌, ◌||◌, not, List, count_by, slice_index_or, Contains}
use Rattle.blk_graph.specs.declared.edge.Edge.{Edge}
use Rattle.blk_graph.specs.declared.edge.Parent.{Parent}
use Rattle.blk_graph.specs.declared.edge.Parent.TheVariants.{Node, Guest, Job}
use Rattle.blk_graph.specs.Paths.{Reaches}

abbrev pub is_marked : List Bool → ℕ → Bool
is_marked marks node = slice_index_or marks node false

-- whether the walk began at this parent or has come to it
abbrev pub is_reached : ℕ → List Bool → Parent → Bool
is_reached from marks (Node node) = node == from || is_marked marks node
is_reached from marks (Guest _) = false
is_reached from marks (Job _) = false

-- whether the edge leads from there to a node without a mark
abbrev pub leads_on : ℕ → List Bool → Edge → Bool
leads_on from marks edge = is_reached from marks edge.parent && not (is_marked marks edge.child)

-- each node with a mark is reached
abbrev pub AllReached : List Edge → ℕ → List Bool → Type 0
AllReached edges from marks = (node : ℕ) → is_marked marks node ≡ true → Reaches edges from node

-- no edge leads on
abbrev pub AreMarksClosed : List Edge → ℕ → List Bool → Type 0
AreMarksClosed edges from marks =
    (edge : Edge) → Contains edges edge → leads_on from marks edge ≡ false

-- how many nodes have a mark
abbrev pub mark_count : List Bool → ℕ
mark_count marks = count_by (λ mark. mark) marks
