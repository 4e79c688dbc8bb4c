-- How far a stream has come: which places its top has of its own, and which it reads through nodes that it is to lose.
use Rattle.std.specs.Prelude.{◌≡◌, ◌≢◌, ◌⊎◌, ℕ, ◌<◌, true, false, slice_index, option_map, List, Option, Some, None}
use Rattle.blk_graph.specs.Edits.{child_of}
use Rattle.blk_graph.specs.declared.edge.Edge.{Edge}
use Rattle.blk_graph.specs.declared.edge.Parent.TheVariants.{Node}
use Rattle.blk_graph.specs.declared.edge.Role.{Role}
use Rattle.blk_graph.specs.declared.edge.Role.TheVariants.{Backing}
use Rattle.blk_nodes.specs.Contents.{disk_of, disk_under}
use Rattle.blk_nodes.specs.Nodes.{Nodes, row_at, node_size, file_of, backing_of, filtered_of}
use Rattle.blk_nodes.specs.Owning.{has_own}
use Rattle.block_jobs.specs.Work.{JobWork, is_left}
use Rattle.node_copies.specs.Between.{chain_end}

-- The chain below a top leads to the base; without a base there is nothing to lead to.
abbrev pub IsOverBase : Nodes → ℕ → Option ℕ → Type 0
IsOverBase nodes top None = Unit {0}
IsOverBase nodes top (Some base) = (below : ℕ) × (backing_of nodes top ≡ Some below)
    × (chain_end nodes (Some base) below ≡ Some base)

-- The top has a place of its own, or its backing node reads there as the base: as zeros, where there is no base.
abbrev pub IsPlaceSettled : Nodes → ℕ → Option ℕ → ℕ → Type 0
IsPlaceSettled nodes top base place = (has_own place (row_at nodes top) ≡ true)
    ⊎ (slice_index (disk_under (disk_of nodes) (backing_of nodes top)) place
    ≡ slice_index (disk_under (disk_of nodes) base) place)

-- So it is with each place of the disk that isn't left.
abbrev pub IsStreamAhead : Nodes → ℕ → Option ℕ → JobWork → Type 0
IsStreamAhead nodes top base work = (place : ℕ) → place < work.size
    → is_left work place ≡ false → IsPlaceSettled nodes top base place

-- a node keeps its backing node, and what it has of its own
pub record KeepsOwn (old new : Nodes) (node : ℕ) : Type 0 where
  pub backing : backing_of new node ≡ backing_of old node
  pub own : (place : ℕ) → has_own place (row_at old node) ≡ true
      → has_own place (row_at new node) ≡ true

-- edges where the top has the base as its backing node, or none, and each node else the children that it had
pub record AreRebased (old new : List Edge) (top : ℕ) (base : Option ℕ) : Type 0 where
  pub backing : child_of (Node top) Backing new ≡ base
  pub others : (node : ℕ) (role : Role) → (node ≡ top → role ≢ Backing)
      → child_of (Node node) role new ≡ child_of (Node node) role old

-- nodes with such edges, and all else as before
pub record IsRebased (old new : Nodes) (top : ℕ) (base : Option ℕ) : Type 0 where
  pub devices : new.devices ≡ old.devices
  pub drivers : (node : ℕ) → option_map (λ row. row.driver) (row_at new node)
      ≡ option_map (λ row. row.driver) (row_at old node)
  pub sizes : (node : ℕ) → node_size new node ≡ node_size old node
  pub files : (node : ℕ) → file_of new node ≡ file_of old node
  pub filtered : (node : ℕ) → filtered_of new node ≡ filtered_of old node
  pub backing : backing_of new top ≡ base
  pub backings : (node : ℕ) → node ≢ top → backing_of new node ≡ backing_of old node
