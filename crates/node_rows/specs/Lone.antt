-- What is looked at of the edges before a qcow2 node is written.
use Rattle.std.specs.Prelude.{◌≡◌, ◌≢◌, ℕ, List}
use Rattle.blk_graph.specs.Paths.{Reaches}
use Rattle.blk_graph.specs.declared.edge.Edge.{Edge}
use Rattle.blk_graph.specs.declared.edge.Parent.TheVariants.{Node}

-- an edge is one of a node, where it leads to a file
abbrev pub IsNoOthers : ℕ → ℕ → Edge → Type 0
IsNoOthers node file edge = edge.child ≡ file → edge.parent ≡ Node node

-- a node is another than a file, and no path leads from it there
abbrev pub IsAwayFrom : List Edge → ℕ → ℕ → Type 0
IsAwayFrom edges file node = (node ≢ file) × ¬ Reaches edges node file
