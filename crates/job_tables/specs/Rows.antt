-- What a job's row says of nodes and edges.
use Rattle.std.specs.Prelude.{◌≡◌, ℕ, List, [], ◌∷◌, ◌++◌, map, if◌then◌else◌, Option, Some, None}
use Rattle.blk_graph.specs.declared.edge.Edge.{Edge}
use Rattle.blk_graph.specs.declared.edge.Role.TheVariants.{Backing, Filtered}
use Rattle.blk_graph.specs.declared.kind.Kind.{Kind}
use Rattle.blk_graph.specs.declared.kind.JobUse.TheVariants.{CopyTarget, CommitTop, CommitBetween, CommitBase, StreamTop, StreamBelow}
use Rattle.blk_graph.specs.Permissions.{job_edge}
use Rattle.qmp_codec.specs.declared.event.JobKind.{JobKind}
use Rattle.qmp_codec.specs.declared.event.JobKind.TheVariants.{Stream, Commit, Mirror, Backup}
use Rattle.qmp_rules.specs.declared.rows.NodeRecord.{NodeRecord}
use Rattle.qmp_rules.specs.declared.rows.JobRecord.{JobRecord}
use Rattle.qmp_rules.specs.Asks.{is_base}
use Rattle.qmp_rules.specs.Edits.{under_top}
use Rattle.qmp_rules.specs.Table.{RunTable, node_by_id, child}
use Rattle.job_edges.specs.Copies.{Copied}

-- ---- its edges

abbrev pub commit_edge : JobRecord → ℕ → Edge
commit_edge row id =
    job_edge row.slot (if is_base row.target id then CommitBase else CommitBetween) id

abbrev pub target_edges : ℕ → Option ℕ → List Edge
target_edges slot None = []
target_edges slot (Some target) = job_edge slot CopyTarget target ∷ []

abbrev pub edges_by : JobRecord → JobKind → List Edge
edges_by row Stream =
    job_edge row.slot StreamTop row.source ∷ map (job_edge row.slot StreamBelow) row.read
edges_by row Commit =
    job_edge row.slot CommitTop row.source ∷ map (commit_edge row) (under_top row)
edges_by row Mirror = target_edges row.slot row.target
edges_by row Backup = target_edges row.slot row.target

abbrev pub edges_of_job : JobRecord → List Edge
edges_of_job row = edges_by row row.kind

-- ---- its nodes

-- all nodes that it holds, be it for reading
abbrev pub nodes_of_job : JobRecord → List ℕ
nodes_of_job row = row.held ++ row.read

-- each node is the backing node of the one before, with no filter between
abbrev pub AreLinked : RunTable → ℕ → List ℕ → Type 0
AreLinked t node [] = Unit {0}
AreLinked t node (below ∷ ids) = (child t node Backing ≡ Some below) × AreLinked t below ids

-- its filter is of a kind of node, and over its source
pub record HasFilterOf (t : RunTable) (row : JobRecord) (kind : Kind) : Type 0 where
  pub filter : ℕ
  pub is_filter : row.filter ≡ Some filter
  pub node : NodeRecord
  pub there : node_by_id t filter ≡ Some node
  pub kind_is : node.kind ≡ kind
  pub over : child t filter Filtered ≡ Some row.source

-- ---- mirrors

abbrev pub mirror_to : JobRecord → JobKind → Option ℕ → List Copied
mirror_to row Mirror (Some target) = record { source = row.source; target = target } ∷ []
mirror_to row kind target = []

-- what mirrors copy, and where to, in the order of their starts
abbrev pub mirrors : List JobRecord → List Copied
mirrors [] = []
mirrors (row ∷ rows) = mirror_to row row.kind row.target ++ mirrors rows
