-- When what used a filter can use another node without a conflict.
use Rattle.std.specs.Prelude.{◌≡◌, ◌≢◌, ◌⊎◌, ℕ, List, find, Some, Contains, true, false}
use Rattle.blk_graph.specs.declared.edge.Edge.{Edge}
use Rattle.blk_graph.specs.declared.edge.Parent.TheVariants.{Node, Job}
use Rattle.blk_graph.specs.declared.edge.Perms.{Perms}
use Rattle.blk_graph.specs.declared.edge.Role.TheVariants.{Filtered}
use Rattle.blk_graph.specs.Edges.{is_job, ArePermsWithin}
use Rattle.blk_graph.specs.Edits.{IsLone, child_of, is_filters, with_filter}
use Rattle.blk_graph.specs.Graph.{Graph, IsFit, IsJust}
use Rattle.blk_graph.specs.Refreshed.{uses_into, refreshed}

-- the filter asks all that its parents ask, and shares only what all of them share
pub record IsTransparent (edges : List Edge) (filter : ℕ) : Type 0 where
  pub edge : Edge
  pub own : find (is_filters filter) edges ≡ Some edge
  pub asks : ArePermsWithin (uses_into edges filter).perm edge.perm
  pub shares : ArePermsWithin edge.shared (uses_into edges filter).shared

-- An edge of a job into a node asks all that the filter's parents ask, and shares only what all of them share. No job leads to
-- the filter, and to its child only the filter and jobs do.
pub record LeavesRoom (edges : List Edge) (filter to job : ℕ) : Type 0 where
  pub edge : Edge
  pub there : Contains edges edge
  pub own : edge.parent ≡ Job job
  pub child : edge.child ≡ to
  pub asks : ArePermsWithin (uses_into edges filter).perm edge.perm
  pub shares : ArePermsWithin edge.shared (uses_into edges filter).shared
  pub apart : (other : Edge) → Contains edges other → other.child ≡ filter
      → is_job other.parent ≡ false
  pub alone : (other : Edge) → Contains edges other
      → child_of (Node filter) Filtered edges ≡ Some other.child
      → (other.parent ≡ Node filter) ⊎ (is_job other.parent ≡ true)

-- the graph's edges are others to which the filter was added, over one node
pub record IsPutOver (graph : Graph) (filter : ℕ) (edges : List Edge) : Type 0 where
  pub node : ℕ
  pub perm : Perms
  pub shared : Perms
  pub differ : filter ≢ node
  pub lone : IsLone edges filter
  pub fit : IsFit graph edges
  pub just : IsJust graph.kinds edges
  pub is : graph.edges ≡ refreshed graph.kinds (with_filter node filter perm shared edges)
