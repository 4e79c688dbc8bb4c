-- The edited lists of edges.
use Rattle.std.specs.Prelude.{◌≢◌, Contains, ℕ, ◌==◌, Bool, ◌&&◌, ◌||◌, not, if◌then◌else◌, List, [], ◌∷◌, ◌++◌, map, filter, find, Option, Some, None}
use Rattle.std.specs.List.{list_any}
use Rattle.blk_graph.specs.declared.edge.Edge.{Edge}
use Rattle.blk_graph.specs.declared.edge.Perms.{Perms}
use Rattle.blk_graph.specs.declared.edge.Parent.{Parent}
use Rattle.blk_graph.specs.declared.edge.Parent.TheVariants.{Node, Job}
use Rattle.std.specs.Option.{option_map}
use Rattle.blk_graph.specs.declared.edge.Role.{Role}
use Rattle.blk_graph.specs.declared.edge.Role.TheVariants.{Backing, Between, Filtered}
use Rattle.blk_graph.specs.Edges.{same_parent, same_role, is_job}
use Rattle.blk_graph.specs.Permissions.{node_edge}

-- whether a new edge takes an old one's place: a parent has one edge of a role, but of the role
-- Between one to each child
abbrev pub takes_place : Edge → Edge → Bool
takes_place new old = same_parent new.parent old.parent && same_role new.role old.role
    && (not (same_role new.role Between) || new.child == old.child)

-- the edge stands in the place that it takes, or else at the end
abbrev pub with_edge : Edge → List Edge → List Edge
with_edge new [] = new ∷ []
with_edge new (old ∷ edges) =
    if takes_place new old then new ∷ edges else old ∷ with_edge new edges

-- whether an edge is that of a parent for a role
abbrev pub is_edge : Parent → Role → Edge → Bool
is_edge parent role edge = same_parent edge.parent parent && same_role edge.role role

-- the child of a parent's first edge of that role
abbrev pub child_of : Parent → Role → List Edge → Option ℕ
child_of parent role edges = option_map (λ edge. edge.child) (find (is_edge parent role) edges)

-- the edge, to another child
abbrev pub with_child : ℕ → Edge → Edge
with_child to edge = record edge { child = to }

-- whether a parent stays behind
abbrev pub stays : Option Parent → Parent → Bool
stays None parent = is_job parent
stays (Some but) parent = is_job parent || same_parent but parent

-- all edges into `from`, but those of jobs and of one parent, lead to `to`
abbrev pub replaced : ℕ → ℕ → Option Parent → Edge → Edge
replaced from to but edge =
    if edge.child == from && not (stays but edge.parent) then with_child to edge else edge

-- the child that a parent then has in place of one
abbrev pub child_after : ℕ → ℕ → Option Parent → Parent → ℕ → ℕ
child_after from to but parent child = if child == from && not (stays but parent) then to else child

abbrev pub with_replaced : ℕ → ℕ → Option Parent → List Edge → List Edge
with_replaced from to but edges = map (replaced from to but) edges

-- all parents of a node but jobs have the overlay as child, and the overlay has the node
abbrev pub with_over : ℕ → ℕ → List Edge → List Edge
with_over node overlay edges =
    with_replaced node overlay (Some (Node overlay))
    (with_edge (node_edge overlay Backing node) edges)

-- no edge enters or leaves the node
pub record IsLone (edges : List Edge) (node : ℕ) : Type 0 where
  pub enters : (edge : Edge) → Contains edges edge → edge.child ≢ node
  pub leaves : (edge : Edge) → Contains edges edge → edge.parent ≢ Node node

-- whether the edge enters or leaves the node
abbrev pub touches : ℕ → Edge → Bool
touches node edge = edge.child == node || same_parent edge.parent (Node node)

-- an edge into one node leads to another
abbrev pub moved : ℕ → ℕ → Edge → Edge
moved from to edge = if edge.child == from then with_child to edge else edge

-- the child that a parent then has in place of one
abbrev pub child_moved : ℕ → ℕ → ℕ → ℕ
child_moved from to child = if child == from then to else child

-- an edge of a parent, of the role Between, to a child
abbrev pub is_between : Parent → ℕ → Edge → Bool
is_between parent child edge = is_edge parent Between edge && edge.child == child

-- an edge whose parent has one of its role where it would be moved to, as only one of the role Between can
abbrev pub is_double : List Edge → ℕ → ℕ → Edge → Bool
is_double edges from to edge = not (from == to) && edge.child == from && same_role edge.role Between
    && list_any (is_between edge.parent to) edges

-- such an edge goes
abbrev pub but_doubles : ℕ → ℕ → List Edge → List Edge
but_doubles from to edges = filter (λ edge. not (is_double edges from to edge)) edges

-- all edges into one node lead to another, and of the role Between a parent still has one to each child
abbrev pub with_moved : ℕ → ℕ → List Edge → List Edge
with_moved from to edges = map (moved from to) (but_doubles from to edges)

-- a filter's edge to its child
abbrev pub filter_edge : ℕ → ℕ → Perms → Perms → Edge
filter_edge filter child perm shared = record {
  parent = Node filter;
  role = Filtered;
  child = child;
  perm = perm;
  shared = shared;
}

-- the node's parents have the filter as child, and the filter has the node
abbrev pub with_filter : ℕ → ℕ → Perms → Perms → List Edge → List Edge
with_filter node filter perm shared edges =
    with_moved node filter edges ++ filter_edge filter node perm shared ∷ []

-- whether the edge is that of a filter to its child
abbrev pub is_filters : ℕ → Edge → Bool
is_filters filter edge = same_parent edge.parent (Node filter) && same_role edge.role Filtered

-- the edges but the filter's own
abbrev pub but_filters : ℕ → List Edge → List Edge
but_filters node edges = filter (λ edge. not (is_filters node edge)) edges

-- the filter's edge is gone, and its parents have its child
abbrev pub without_filter : ℕ → List Edge → List Edge
without_filter node edges = elim (find (is_filters node) edges) as (λ _. List Edge) [
  | None ↦ edges
  | Some edge ↦ with_moved node edge.child (but_filters node edges)
]

-- a parent's edges of a role are gone
abbrev pub without_edge : Parent → Role → List Edge → List Edge
without_edge parent role edges = filter (λ edge. not (is_edge parent role edge)) edges

-- a parent's edges are gone
abbrev pub without_parent : Parent → List Edge → List Edge
without_parent parent edges = filter (λ edge. not (same_parent edge.parent parent)) edges

-- the edges of a job and its filter are gone, and all parents of the filter's child but jobs have another node
abbrev pub with_pivot : ℕ → ℕ → ℕ → List Edge → List Edge
with_pivot filter to job edges = elim (child_of (Node filter) Filtered edges) as (λ _. List Edge) [
  | None ↦ without_parent (Job job) edges
  | Some node ↦ with_replaced node to None (without_filter filter (without_parent (Job job) edges))
]
