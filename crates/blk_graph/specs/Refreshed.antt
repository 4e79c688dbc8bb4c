-- What a node's edges ask and share is derived from the edges into the node, so one edit may change several edges.
use Rattle.std.specs.Prelude.{◌≡◌, ◌<◌, ℕ, zero, suc, ◌==◌, ◌&&◌, ◌||◌, if◌then◌else◌, List, [], ◌∷◌, map, slice_index_or, Contains, Option, Some, None, true, false}
use Rattle.blk_graph.specs.declared.edge.Edge.{Edge}
use Rattle.blk_graph.specs.declared.edge.Parent.{Parent}
use Rattle.blk_graph.specs.declared.edge.Parent.TheVariants.{Node, Guest, Job}
use Rattle.blk_graph.specs.declared.edge.Uses.{Uses}
use Rattle.blk_graph.specs.declared.kind.Kind.TheVariants.{Protocol}
use Rattle.blk_graph.specs.declared.kind.NodeKind.{NodeKind}
use Rattle.blk_graph.specs.Permissions.{perms, asks_shares, idle_uses, uses_by, has_role, IsDrive, IsOfJob}

-- what stands at an id that no node has
abbrev pub no_kind : NodeKind
no_kind = record { kind = Protocol; writes = false }

-- the kind of a node, by its id
abbrev pub kind_at : List NodeKind → ℕ → NodeKind
kind_at kinds node = slice_index_or kinds node no_kind

-- a node's edge has a role of the node's kind; what guests' and jobs' edges ask and share is as the table says
abbrev pub IsOf : List NodeKind → Edge → Parent → Type 0
IsOf kinds edge (Node node) = has_role (kind_at kinds node).kind edge.role ≡ true
IsOf kinds edge (Guest _) = IsDrive edge
IsOf kinds edge (Job _) = IsOfJob edge

abbrev pub IsByTable : List NodeKind → Edge → Type 0
IsByTable kinds edge = IsOf kinds edge edge.parent

-- what one of two asks, and what both share
abbrev pub joined : Edge → Uses → Uses
joined edge uses = asks_shares
    (perms (edge.perm.read || uses.perm.read) (edge.perm.write || uses.perm.write)
    (edge.perm.unchanged || uses.perm.unchanged))
    (perms (edge.shared.read && uses.shared.read) (edge.shared.write && uses.shared.write)
    (edge.shared.unchanged && uses.shared.unchanged))

-- what the edges into a node ask together, and what all of them share
abbrev pub uses_into : List Edge → ℕ → Uses
uses_into [] node = idle_uses
uses_into (edge ∷ edges) node =
    if edge.child == node then joined edge (uses_into edges node) else uses_into edges node

-- the edge with these uses, where they are derived
abbrev pub with_uses : Edge → Option Uses → Edge
with_uses edge None = edge
with_uses edge (Some uses) = record edge { perm = uses.perm; shared = uses.shared }

-- an edge as its parent's kind and the uses of its parent say; those of guests and jobs are as they were set
abbrev pub ruled_from : List NodeKind → (ℕ → Uses) → Edge → Parent → Edge
ruled_from kinds above edge (Node node) =
    with_uses edge (uses_by (kind_at kinds node) edge.role (above node))
ruled_from kinds above edge (Guest _) = edge
ruled_from kinds above edge (Job _) = edge

abbrev pub ruled : List NodeKind → (ℕ → Uses) → Edge → Edge
ruled kinds above edge = ruled_from kinds above edge edge.parent

-- each edge is as the edges into its parent say
abbrev pub IsRefreshed : List NodeKind → List Edge → Type 0
IsRefreshed kinds edges =
    (edge : Edge) → Contains edges edge → ruled kinds (uses_into edges) edge ≡ edge

-- each edge is made so once, by the edges before that
abbrev pub turned : List NodeKind → List Edge → List Edge
turned kinds edges = map (ruled kinds (uses_into edges)) edges

abbrev pub turned_by : ℕ → List NodeKind → List Edge → List Edge
turned_by zero kinds edges = edges
turned_by (suc turns) kinds edges = turned kinds (turned_by turns kinds edges)

-- No path is longer than the nodes are many, of which there are 64: then each edge is as those into its parent say.
unfoldable pub refreshed : List NodeKind → List Edge → List Edge
refreshed kinds edges = turned_by 64 kinds edges

-- what stands at each id below 64
abbrev pub IsTable : (ℕ → Uses) → List Uses → Type 0
IsTable uses table = (node : ℕ) → node < 64 → slice_index_or table node idle_uses ≡ uses node
