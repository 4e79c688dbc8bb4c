-- The disk of a node is made of the disks below it: no path is longer than 63 edges, so 64 turns are enough.
use Rattle.std.proofs.Common.{◌≡◌, ℕ, zero, suc, ◌≤◌, List, [], ◌∷◌, length, Option, Some, None, refl, sym, ◌∙◌, ap, arith}
use Rattle.std.specs.Prelude.{Contains}
use Rattle.q2_format.specs.Contents.{image_disk}
use Rattle.blk_graph.specs.Graph.{PathsAreShort}
use Rattle.blk_graph.specs.Paths.{IsPath}
use Rattle.blk_graph.specs.declared.edge.Edge.{Edge}
use Rattle.blk_graph.specs.declared.edge.Parent.TheVariants.{Node}
use Rattle.blk_graph.specs.declared.edge.Role.TheVariants.{File as FileRole, Backing, Filtered}
use Rattle.blk_graph.proofs.ChildLemmas.{HasEdge, child-edge}
use Rattle.blk_graph.proofs.GraphLemmas.{PathsAreShort-from_IsSound}
use Rattle.blk_nodes.specs.Contents.{disk_under, disk_through, disk_by, disk_down, disk_of, bytes_of, Unfolds}
use Rattle.blk_nodes.specs.Joined.{IsJoined}
use Rattle.blk_nodes.specs.Nodes.{Nodes, row_at, node_size, file_of, backing_of, filtered_of}
use Rattle.blk_nodes.specs.declared.row.Driver.{Driver}
use Rattle.blk_nodes.specs.declared.row.Driver.TheVariants.{File, Raw, Qcow2, CopyOnRead, Filter}
use Rattle.blk_nodes.specs.declared.row.Row.{Row}

-- a path of so many edges starts at a node
abbrev pub StartsAt : List Edge → ℕ → ℕ → Type 0
StartsAt edges zero n = Unit {0}
StartsAt edges (suc k) n = (e : Edge) × Contains edges e × (e.parent ≡ Node n) × StartsAt edges k e.child

path_from : (edges : List Edge) (k n : ℕ) → StartsAt edges k n → (path : List Edge) × (to : ℕ) × IsPath edges n path to × (length path ≡ k)
path_from edges zero n h = ([], n, refl, refl)
path_from edges (suc k) n h =
    let r = path_from edges k h.0.child h.3 in
    (h.0 ∷ r.0, r.1, (h.1, h.2, r.2), omega (arith, r.3))

module _ (nodes : Nodes) where
  -- a disk is made of those of the node's children alone
  over_same : (f g : ℕ → List ℕ) (next : Option ℕ) → ((c : ℕ) → next ≡ Some c → f c ≡ g c) → disk_under f next ≡ disk_under g next
  over_same f g None each = refl
  over_same f g (Some c) each = each c refl

  through_same : (size : ℕ) (f g : ℕ → List ℕ) (next : Option ℕ) → ((c : ℕ) → next ≡ Some c → f c ≡ g c) → disk_through size f next ≡ disk_through size g next
  through_same size f g None each = refl
  through_same size f g (Some c) each = each c refl

  by_driver : (n : ℕ) (f g : ℕ → List ℕ) → ((c : ℕ) → HasEdge nodes.graph.edges (Node n) c → f c ≡ g c) → (driver : Driver)
      → disk_by nodes f n driver ≡ disk_by nodes g n driver
  by_driver n f g each File = refl
  by_driver n f g each (Raw part) = refl
  by_driver n f g each (Qcow2 image) =
      ap (image_disk (disk_under (bytes_of nodes) (file_of nodes n)))
      (over_same f g (backing_of nodes n) (λ c is. each c (child-edge (Node n) Backing nodes.graph.edges c is)))
  by_driver n f g each CopyOnRead =
      over_same f g (file_of nodes n) (λ c is. each c (child-edge (Node n) FileRole nodes.graph.edges c is))
  by_driver n f g each (Filter kind) =
      through_same (node_size nodes n) f g (filtered_of nodes n) (λ c is. each c (child-edge (Node n) Filtered nodes.graph.edges c is))

  by_row : (n : ℕ) (f g : ℕ → List ℕ) → ((c : ℕ) → HasEdge nodes.graph.edges (Node n) c → f c ≡ g c) → (found : Option Row)
      → elim found as (λ _. List ℕ) [ None ↦ [] | Some row ↦ disk_by nodes f n row.driver ]
      ≡ elim found as (λ _. List ℕ) [ None ↦ [] | Some row ↦ disk_by nodes g n row.driver ]
  by_row n f g each None = refl
  by_row n f g each (Some row) = by_driver n f g each row.driver

  -- where no path is as long as the turns, more turns give the same
  stable : (k n turns : ℕ) → (StartsAt nodes.graph.edges k n → ⊥) → k ≤ turns → disk_down turns nodes n ≡ disk_down k nodes n
  stable zero n turns none h = absurd (none tt)
  stable (suc k) n zero none h = absurd (omega (arith, h))
  stable (suc k) n (suc turns) none h =
      by_row n (disk_down turns nodes) (disk_down k nodes)
      (λ c edge. stable k c turns
      (λ starts. none (edge.edge, edge.there, edge.from, rw edge.to starts)) (omega (arith, h)))
      (row_at nodes n)

  pub unfolds : IsJoined nodes → Unfolds nodes
  unfolding disk_of
  unfolds joined node row there =
      ap (λ (found : Option Row). elim found as (λ _. List ℕ) [ None ↦ [] | Some r ↦ disk_by nodes (disk_down 63 nodes) node r.driver ]) there
      ∙ by_driver node (disk_down 63 nodes) (disk_down 64 nodes) (λ c edge. sym (stable 63 c 64 (none c edge) (omega arith))) row.driver
    where
      none : (c : ℕ) → HasEdge nodes.graph.edges (Node node) c → StartsAt nodes.graph.edges 63 c → ⊥
      none c edge starts =
          let path = path_from nodes.graph.edges 63 c starts in
          let short : PathsAreShort nodes.graph = PathsAreShort-from_IsSound nodes.graph joined.sound in
          let whole : IsPath nodes.graph.edges node (edge.edge ∷ path.0) path.1 = (edge.there, edge.from, rw edge.to path.2) in
          let less = short node path.1 (edge.edge ∷ path.0) whole in
          omega (arith, less, path.3, joined.sound.few_nodes)

-- no path has as many edges as there may be nodes
pub no_path : (nodes : Nodes) → IsJoined nodes → (k : ℕ) → 64 ≤ k → (node : ℕ) → StartsAt nodes.graph.edges k node → ⊥
no_path nodes joined k many node starts =
    let path = path_from nodes.graph.edges k node starts in
    let short : PathsAreShort nodes.graph = PathsAreShort-from_IsSound nodes.graph joined.sound in
    let less = short node path.1 path.0 path.2 in
    omega (arith, less, path.3, many, joined.sound.few_nodes)
