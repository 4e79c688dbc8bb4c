-- How a move finds the edges whose parent has one where they would lead: by one mark for each job. No public clause cites
-- this module.
use Rattle.std.specs.Prelude.{◌≡◌, ℕ, ◌<◌, ◌==◌, Bool, false, ◌&&◌, ◌||◌, List, slice_index_or}
use Rattle.std.specs.List.{list_any}
use Rattle.blk_graph.specs.declared.edge.Edge.{Edge}
use Rattle.blk_graph.specs.declared.edge.Parent.{Parent}
use Rattle.blk_graph.specs.declared.edge.Parent.TheVariants.{Node, Guest, Job}
use Rattle.blk_graph.specs.declared.edge.Role.TheVariants.{Between}
use Rattle.blk_graph.specs.Edges.{same_role}
use Rattle.blk_graph.specs.Edits.{is_between}

abbrev pub has_mark : List Bool → Parent → Bool
has_mark marks (Node _) = false
has_mark marks (Guest _) = false
has_mark marks (Job job) = slice_index_or marks job false

-- the jobs with a mark are those with an edge of the role Between to the node
abbrev pub AreJobsAt : List Edge → ℕ → List Bool → Type 0
AreJobsAt edges node marks =
    (job : ℕ) → job < 16
    → slice_index_or marks job false ≡ list_any (is_between (Job job) node) edges

-- where one edge more is looked at
abbrev pub MarksJob : Edge → ℕ → List Bool → List Bool → Type 0
MarksJob edge node old new = (job : ℕ) → job < 16
    → slice_index_or new job false
    ≡ (is_between (Job job) node edge || slice_index_or old job false)

-- an edge of the role Between into a node whose job has a mark
abbrev pub is_double_by : List Bool → ℕ → Edge → Bool
is_double_by marks from edge =
    edge.child == from && same_role edge.role Between && has_mark marks edge.parent
