-- The edges of jobs, and nodes that may be written, or no longer.
use Rattle.std.specs.Prelude.{ℕ, Bool, not, List, [], ◌∷◌, slice_set, option_map}
use Rattle.blk_graph.specs.declared.edge.Edge.{Edge}
use Rattle.blk_graph.specs.declared.edge.Parent.TheVariants.{Job}
use Rattle.blk_graph.specs.Edits.{with_edge, without_parent}
use Rattle.blk_graph.specs.Graph.{with_writes}
use Rattle.blk_graph.specs.Judged.{with_edges, with_kinds}
use Rattle.blk_graph.specs.Permissions.{job_edge}
use Rattle.blk_nodes.specs.Nodes.{Nodes, row_at}
use Rattle.blk_nodes.specs.declared.nodes.jobs.NodeUse.{NodeUse}
use Rattle.blk_nodes.specs.declared.row.Row.{Row}

-- an edge of a job for each node that it uses, in their order
abbrev pub with_job_edges : ℕ → List NodeUse → List Edge → List Edge
with_job_edges job [] edges = edges
with_job_edges job (used ∷ uses) edges =
    with_job_edges job uses (with_edge (job_edge job used.what used.node) edges)

-- the nodes with these edges of a job
abbrev pub with_job : ℕ → List NodeUse → Nodes → Nodes
with_job job uses nodes = record nodes {
  graph = with_edges nodes.graph (with_job_edges job uses nodes.graph.edges);
}

-- the nodes without a job's edges
abbrev pub without_job : ℕ → Nodes → Nodes
without_job job nodes =
    record nodes { graph = with_edges nodes.graph (without_parent (Job job) nodes.graph.edges) }

-- a row that may be written or not
abbrev pub with_read_only : Bool → Row → Row
with_read_only is_read_only row = record row { is_read_only = is_read_only }

-- the nodes where one may be written or not
abbrev pub with_node_writes : ℕ → Bool → Nodes → Nodes
with_node_writes node writes nodes = record nodes {
  graph = with_kinds nodes.graph (with_writes node writes nodes.graph.kinds);
  rows = slice_set nodes.rows node
      (option_map (with_read_only (not writes)) (row_at nodes node));
}
