-- What the ends of jobs make of the edges, derived anew behind each change.
use Rattle.std.specs.Prelude.{◌≡◌, ◌≢◌, ℕ, List, Some}
use Rattle.blk_graph.specs.declared.edge.Edge.{Edge}
use Rattle.blk_graph.specs.declared.edge.Parent.TheVariants.{Node, Job}
use Rattle.blk_graph.specs.declared.edge.Role.TheVariants.{Backing}
use Rattle.blk_graph.specs.declared.kind.NodeKind.{NodeKind}
use Rattle.blk_graph.specs.Edits.{with_edge, with_replaced, without_edge, without_filter, without_parent}
use Rattle.blk_graph.specs.Permissions.{node_edge}
use Rattle.blk_graph.specs.Refreshed.{kind_at, refreshed}

-- all nodes but one are what they were
abbrev pub AreOthers : List NodeKind → List NodeKind → ℕ → Type 0
AreOthers kinds after node = (n : ℕ) → n ≢ node → kind_at after n ≡ kind_at kinds n

-- a job's edges are gone
abbrev pub job_gone : List NodeKind → ℕ → List Edge → List Edge
job_gone kinds job edges = refreshed kinds (without_parent (Job job) edges)

-- and then its filter, which is no node any more
abbrev pub filter_gone : List NodeKind → List NodeKind → ℕ → ℕ → List Edge → List Edge
filter_gone kinds after job filter edges =
    refreshed after (without_filter filter (job_gone kinds job edges))

-- then all that used the source uses the target
abbrev pub moved_to : List NodeKind → List NodeKind → ℕ → ℕ → ℕ → ℕ → List Edge → List Edge
moved_to kinds after job filter source target edges = refreshed after
    (with_replaced source target (Some (Node filter)) (filter_gone kinds after job filter edges))

-- a node has another backing node, or none
abbrev pub rebased : List NodeKind → ℕ → ℕ → List Edge → List Edge
rebased kinds node base edges = refreshed kinds (with_edge (node_edge node Backing base) edges)

abbrev pub unbacked : List NodeKind → ℕ → List Edge → List Edge
unbacked kinds node edges = refreshed kinds (without_edge (Node node) Backing edges)
