-- What a node reads through, the chain of backing nodes below it, and which job holds it.
use Rattle.std.specs.Prelude.{ℕ, zero, suc, ◌==◌, Bool, true, false, not, ◌&&◌, ◌||◌, if◌then◌else◌, List, [], ◌∷◌, map, drop, find, Option, Some, None, option_map, option_and_then, unwrap_or, is_some}
use Rattle.std.specs.List.{list_any}
use Rattle.blk_graph.specs.declared.edge.Edge.{Edge}
use Rattle.blk_graph.specs.declared.edge.Parent.{Parent}
use Rattle.blk_graph.specs.declared.edge.Parent.TheVariants.{Node, Guest, Job}
use Rattle.blk_graph.specs.declared.edge.Role.{Role}
use Rattle.blk_graph.specs.declared.edge.Role.TheVariants.{File, Backing, Filtered}
use Rattle.blk_graph.specs.declared.kind.Kind.{Kind}
use Rattle.blk_graph.specs.declared.kind.Kind.TheVariants.{Protocol, Raw, Qcow2, CopyOnRead, BeforeWrite, Mirror, Commit}
use Rattle.blk_graph.specs.Edges.{same_parent, same_role}
use Rattle.qmp_rules.specs.declared.rows.NodeRecord.{NodeRecord}
use Rattle.qmp_rules.specs.declared.rows.JobRecord.{JobRecord}
use Rattle.qmp_rules.specs.Table.{RunTable, node_by_id, child}

abbrev pub is_listed : ℕ → List ℕ → Bool
is_listed id ids = list_any (λ other. other == id) ids

-- ---- filters

-- the role of the edge by which a filter reads
abbrev pub filter_role : Kind → Option Role
filter_role CopyOnRead = Some File
filter_role BeforeWrite = Some Filtered
filter_role Mirror = Some Filtered
filter_role Commit = Some Filtered
filter_role _ = None

-- the child of a filter; none for every other node
abbrev pub filtered : RunTable → ℕ → Option ℕ
filtered t id =
    option_and_then (child t id) (option_and_then (λ row. filter_role row.kind) (node_by_id t id))

abbrev pub disk_from : ℕ → RunTable → ℕ → ℕ
disk_from zero t id = id
disk_from (suc more) t id =
    elim (filtered t id) as (λ _. ℕ) [ None ↦ id | Some below ↦ disk_from more t below ]

-- the node that a node reads as: itself, or what a filter is over; no path is longer than there are nodes
unfoldable pub disk_node : RunTable → ℕ → ℕ
disk_node t id = disk_from 64 t id

-- whether a node has a flat disk; a filter has its child's
abbrev pub is_settled : RunTable → ℕ → Bool
is_settled t id =
    unwrap_or (option_map (λ row. row.is_settled) (node_by_id t (disk_node t id))) false

-- ---- chains

-- the backing node, filters passed through
abbrev pub backing : RunTable → ℕ → Option ℕ
backing t id = option_map (disk_node t) (child t id Backing)

abbrev pub chain_from : ℕ → RunTable → ℕ → List ℕ
chain_from zero t id = id ∷ []
chain_from (suc more) t id =
    id ∷ (elim (backing t id) as (λ _. List ℕ) [ None ↦ [] | Some below ↦ chain_from more t below ])

-- a node and the backing nodes below it, from the top down
unfoldable pub chain : RunTable → ℕ → List ℕ
chain t id = chain_from 64 t id

abbrev pub chain_below : RunTable → ℕ → List ℕ
chain_below t id = drop 1 (chain t id)

-- the nodes of a list up to this one and with it, or all
abbrev pub down_to : Option ℕ → List ℕ → List ℕ
down_to base [] = []
down_to None (id ∷ ids) = id ∷ down_to None ids
down_to (Some base) (id ∷ ids) = if id == base then id ∷ [] else id ∷ down_to (Some base) ids

-- the lowest of a chain, which is not empty
abbrev pub lowest_of_ids : ℕ → List ℕ → ℕ
lowest_of_ids id [] = id
lowest_of_ids id (other ∷ ids) = lowest_of_ids other ids

abbrev pub lowest_in_chain : RunTable → ℕ → ℕ
lowest_in_chain t id = lowest_of_ids id (chain_below t id)

-- the overlay whose backing edge leads to a node
abbrev pub is_overlay : Parent → Bool
is_overlay (Node id) = true
is_overlay _ = false

abbrev pub overlay_edge : RunTable → ℕ → Option Edge
overlay_edge t id =
    find (λ edge. (edge.child == id) && (same_role edge.role Backing && is_overlay edge.parent))
    t.edges

abbrev pub parent_id : Parent → List ℕ
parent_id (Node id) = id ∷ []
parent_id _ = []

abbrev pub overlays : RunTable → ℕ → List ℕ
overlays t id =
    elim (overlay_edge t id) as (λ _. List ℕ) [ None ↦ [] | Some edge ↦ parent_id edge.parent ]

-- ---- paths of any edges

abbrev pub leads : ℕ → List Edge → ℕ → ℕ → Bool
leads zero edges from to = false
leads (suc more) edges from to =
    list_any (λ edge. same_parent edge.parent (Node from)
    && ((edge.child == to) || leads more edges edge.child to)) edges

-- a path of edges leads from one node to another
unfoldable pub reaches : RunTable → ℕ → ℕ → Bool
reaches t from to = leads 64 t.edges from to

-- ---- what writes leave without a flat disk

-- the node reads the other one as a backing node
abbrev pub is_over : RunTable → ℕ → ℕ → Bool
is_over t node id = is_listed node (chain_below t (disk_node t id))

abbrev pub unsettled_over : RunTable → ℕ → NodeRecord → NodeRecord
unsettled_over t node row = if is_over t node row.id then record row { is_settled = false } else row

-- A guest's write changes a node: every other node that reaches it by backing edges has no flat disk any more.
unfoldable pub written_under : ℕ → RunTable → RunTable
written_under node t = record t { nodes = map (unsettled_over t node) t.nodes }

-- ---- holders

abbrev pub holds_so : ℕ → JobRecord → Bool
holds_so id job = is_listed id job.held

abbrev pub holds_any : ℕ → JobRecord → Bool
holds_any id job = is_listed id job.held || is_listed id job.read

-- the first job that holds a node, be it for reading
abbrev pub holder : RunTable → ℕ → Option JobRecord
holder t id = find (holds_any id) t.jobs

-- the first that holds it for itself
abbrev pub keeper : RunTable → ℕ → Option JobRecord
keeper t id = find (holds_so id) t.jobs
