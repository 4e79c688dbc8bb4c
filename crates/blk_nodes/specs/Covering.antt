-- An overlay that is put over a node.
use Rattle.std.specs.Prelude.{◌≡◌, ◌≢◌, ℕ, ◌==◌, if◌then◌else◌, Contains, Some}
use Rattle.blk_graph.specs.declared.edge.Edge.{Edge}
use Rattle.blk_graph.specs.Edits.{with_over}
use Rattle.blk_graph.specs.Judged.{with_edges}
use Rattle.q2_image.specs.Image.{Known}
use Rattle.blk_nodes.specs.Contents.{disk_of}
use Rattle.blk_nodes.specs.Joined.{HasSize}
use Rattle.blk_nodes.specs.Nodes.{Nodes, AreTold, row_at, file_of}
use Rattle.blk_nodes.specs.Overlays.{IsFresh}
use Rattle.blk_nodes.specs.declared.row.Driver.TheVariants.{Qcow2, CopyOnRead}
use Rattle.blk_nodes.specs.declared.row.Row.{Row}

-- the nodes with an overlay over one of them
abbrev pub covered : ℕ → ℕ → Nodes → Nodes
covered node overlay nodes =
    record nodes { graph = with_edges nodes.graph (with_over node overlay nodes.graph.edges) }

-- A qcow2 node that shows what is below it: it maps no cluster, no node reads it yet, and devices tell their bytes.
pub record IsClear (nodes : Nodes) (overlay : ℕ) : Type 0 where
  pub fresh : IsFresh nodes overlay
  pub unused : (edge : Edge) → Contains nodes.graph.edges edge → edge.child ≢ overlay
  pub told : AreTold nodes.devices

-- the overlay reads as the node did, and each other node as it did
abbrev pub ReadCovered : Nodes → Nodes → ℕ → ℕ → Type 0
ReadCovered old new node overlay =
    (other : ℕ) → disk_of new other ≡ disk_of old (if other == overlay then node else other)

-- A qcow2 node may be put over a node: it is another one, of the same size, and the node is no format node's file, since those
-- edges never move.
pub record IsCover (nodes : Nodes) (node overlay : ℕ) : Type 0 where
  pub row : Row
  pub image : Known
  pub there : row_at nodes overlay ≡ Some row
  pub driver : row.driver ≡ Qcow2 image
  pub other : overlay ≢ node
  pub same : HasSize nodes node image.header.size
  pub files : (parent : ℕ) (row : Row) → row_at nodes parent ≡ Some row
      → file_of nodes parent ≡ Some node
      → row.driver ≡ CopyOnRead
