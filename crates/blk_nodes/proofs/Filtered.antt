-- A job's filter that was added, with no edge yet.
use Rattle.std.proofs.Common.{◌≡◌, ℕ, ◌<◌, Bool, List, replicate, Option, Some, None, refl, ◌∙◌, ap, inr}
use Rattle.blk_graph.specs.Edits.{IsLone, child_of}
use Rattle.blk_graph.specs.Graph.{HasNode, IsSoundGraph}
use Rattle.blk_graph.specs.declared.edge.Parent.TheVariants.{Node}
use Rattle.blk_graph.specs.declared.edge.Role.{Role}
use Rattle.blk_graph.specs.declared.edge.Role.TheVariants.{Filtered}
use Rattle.blk_graph.proofs.ChildLemmas.{child-edge}
use Rattle.blk_nodes.specs.Adding.{with_node_row, filtering_row}
use Rattle.blk_nodes.specs.Contents.{disk_through, disk_of}
use Rattle.blk_nodes.specs.Joined.{IsFiltering, IsJoined}
use Rattle.blk_nodes.specs.Nodes.{Nodes, row_at, size_by, node_size, filtered_of}
use Rattle.blk_nodes.specs.declared.row.FilterKind.{FilterKind}
use Rattle.blk_nodes.specs.declared.row.Row.{Row}
use Rattle.blk_nodes.proofs.Additions.{Extends, row_new, row_stays, joined_added}
use Rattle.blk_nodes.proofs.KeptDisks.{disk_stays}
use Rattle.blk_nodes.proofs.Unfolding.{unfolds}

module _ (nodes : Nodes) (id size : ℕ) (kind : FilterKind) (name : List ℕ) (is_read_only : Bool) (joined : IsJoined nodes) (absent : HasNode nodes.graph id → ⊥)
    (small : id < 64) (lone : IsLone nodes.graph.edges id) where
  abbrev row : Row
  row = filtering_row kind size is_read_only

  abbrev added : Nodes
  added = with_node_row nodes id name row

  extends : Extends nodes added
  extends = record {
    rows = row_stays nodes added id name row joined absent small refl refl refl;
    devices = λ n some. refl;
    files = λ n row there. refl;
    backings = λ n row there. refl;
    filters = λ n row there. refl;
  }

  no_child : (role : Role) (found : Option ℕ) → child_of (Node id) role nodes.graph.edges ≡ found → found ≡ None
  no_child role None is = refl
  no_child role (Some child) is =
      let e = child-edge (Node id) role nodes.graph.edges child is in absurd (lone.leaves e.edge e.there e.from)

  nothing : filtered_of added id ≡ None
  nothing = no_child Filtered (filtered_of added id) refl

  below : IsFiltering added id size
  below child edge = let bad : ⊥ = cc (edge, nothing) in absurd bad

  pub joined_filter : IsSoundGraph added.graph → IsJoined added
  joined_filter sound = joined_added nodes added id name row joined absent small refl refl refl extends sound tt below (λ n some. inr some) joined.once

  pub disks_filter : (other : ℕ) → HasNode nodes.graph other → disk_of added other ≡ disk_of nodes other
  disks_filter = disk_stays nodes added extends joined

  own : row_at added id ≡ Some row
  own = row_new nodes added id name row joined absent small refl refl refl

  pub disk_filter : IsSoundGraph added.graph → disk_of added id ≡ replicate size 0
  disk_filter sound =
      unfolds added (joined_filter sound) id row own
      ∙ ap (disk_through (node_size added id) (disk_of added)) nothing
      ∙ ap (λ (n : ℕ). replicate n 0) (ap size_by own)
