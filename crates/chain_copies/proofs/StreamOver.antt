-- A stream's top is over its base: by links, of one size, and so that the edges may be rewired.
use Rattle.std.proofs.Common.{◌≡◌, ℕ, List, [], ◌∷◌, ◌++◌, Option, Some, None, refl, sym, ◌∙◌, ap, subst, arith, inl, inr}
use Rattle.std.proofs.lemmas.Bool.{cases_eq, eq-eqb}
use Rattle.blk_graph.specs.Graph.{HasNode, IsSoundGraph}
use Rattle.blk_graph.specs.declared.edge.Edge.{Edge}
use Rattle.blk_graph.specs.declared.edge.Role.TheVariants.{File as FileRole, Backing, Filtered}
use Rattle.blk_graph.specs.declared.kind.NodeKind.{NodeKind}
use Rattle.q2_image.specs.Image.{Known}
use Rattle.blk_nodes.specs.Joined.{HasBelow, HasSize, IsJoined, IsOverlay}
use Rattle.blk_nodes.specs.Nodes.{Nodes, row_at, file_of, backing_of, filtered_of}
use Rattle.blk_nodes.specs.Rewiring.{AreKindsKept, IsWiring, rewired}
use Rattle.blk_nodes.specs.declared.row.Driver.{Driver}
use Rattle.blk_nodes.specs.declared.row.Driver.TheVariants.{File, Raw, Qcow2, CopyOnRead, Filter}
use Rattle.blk_nodes.specs.declared.row.Row.{Row}
use Rattle.blk_nodes.proofs.Rewired.{file_then, size_then, sizes_same}
use Rattle.node_copies.specs.Between.{chain_end}
use Rattle.chain_copies.specs.Commits.{AreLinkedIn}
use Rattle.chain_copies.specs.Streams.{AreRebased, IsOverBase}
use Rattle.chain_copies.proofs.CommitsLinked.{image_over, linked_ends}
use Rattle.chain_copies.proofs.CommitsTurns.{end_sized}
use Rattle.chain_copies.proofs.StreamOwn.{end_leads}
use Rattle.std.specs.Prelude.{IsSome}
use Rattle.blk_graph.specs.Paths.{IsPath}
use Rattle.blk_nodes.specs.Nodes.{size_by, node_size}
use Rattle.blk_nodes.specs.Reading.{LeadsTo}

-- ---- by links

ends_there : (nodes : Nodes) (base : ℕ) → chain_end nodes (Some base) base ≡ Some base
unfolding chain_end
ends_there nodes base = rw (eq-eqb base base refl) refl

pub over_linked : (nodes : Nodes) (top base : ℕ) (between : List ℕ) → IsJoined nodes → AreLinkedIn nodes top (between ++ base ∷ []) → IsOverBase nodes top (Some base)
over_linked nodes top base [] joined linked = (base, linked.0, ends_there nodes base)
over_linked nodes top base (next ∷ between) joined linked = (next, linked.0, linked_ends nodes joined base next between linked.1)

-- ---- of one size

module _ (nodes : Nodes) (joined : IsJoined nodes) where
  path_there : (from to : ℕ) (first : Edge) (rest : List Edge) → IsPath nodes.graph.edges from (first ∷ rest) to → HasNode nodes.graph to
  path_there from to first [] path = subst (HasNode nodes.graph) path.2 (joined.sound.fit.each first path.0).child
  path_there from to first (next ∷ rest) path = path_there first.child to next rest path.2

  size_of : (node size : ℕ) → IsSome (row_at nodes node) → node_size nodes node ≡ size → HasSize nodes node size
  size_of node size has is = by (row_at nodes node) refl has is
    where
      by : (found : Option Row) → row_at nodes node ≡ found → IsSome found → size_by found ≡ size → HasSize nodes node size
      by None there has is = absurd (cc has)
      by (Some row) there has is = record { row = row; there = there; is = is }

  -- a node that another leads to is there, and so has its size
  led_sized : (node end size : ℕ) → HasSize nodes node size → LeadsTo nodes.graph.edges node end → node_size nodes end ≡ size → HasSize nodes end size
  led_sized node end size has (inl same) is = subst (λ (n : ℕ). HasSize nodes n size) same has
  led_sized node end size has (inr path) is = size_of end size (joined.there end (path_there node end path.first path.rest path.path)) is

  pub base_sized : (top base size : ℕ) → HasSize nodes top size → IsOverBase nodes top (Some base) → HasSize nodes base size
  base_sized top base size has (below, over, ends) =
      let at = image_over nodes top below joined over in
      let overlay : IsOverlay nodes top at.image = rw at.driver at (joined.below top at.row at.there) in
      let sized : at.image.header.size ≡ at.row.size = rw at.driver at (joined.sized top at.row at.there) in
      let size_is : at.image.header.size ≡ size = sized ∙ sym (ap size_by at.there) ∙ ap size_by has.there ∙ has.is in
      let has_below : HasSize nodes below size = subst (HasSize nodes below) size_is (overlay.backing below over) in
      led_sized below base size has_below (end_leads nodes (Some base) below base ends)
      (end_sized nodes joined (Some base) below base ends ∙ ap size_by has_below.there ∙ has_below.is)

  -- ---- the edges may be rewired

  module _ (kinds : List NodeKind) (edges : List Edge) (top : ℕ) (base : Option ℕ) (over : IsOverBase nodes top base) (are : AreRebased nodes.graph.edges edges top base) where
    abbrev then' : Nodes
    then' = rewired kinds edges nodes

    file_same : (n : ℕ) → file_of then' n ≡ file_of nodes n
    file_same n = are.others n FileRole (λ is role. cc role)

    filtered_same : (n : ℕ) → filtered_of then' n ≡ filtered_of nodes n
    filtered_same n = are.others n Filtered (λ is role. cc role)

    module _ (n : ℕ) (row : Row) (there : row_at nodes n ≡ Some row) where
      overlay_then : (image : Known) → row.driver ≡ Qcow2 image → IsOverlay nodes n image → IsOverlay then' n image
      overlay_then image driver has = record {
        file = has.file;
        edge = file_same n ∙ has.edge;
        is_file = file_then nodes kinds edges joined has.file has.is_file;
        opened = has.opened;
        known = has.known;
        backing = λ c at. size_then nodes kinds edges joined c image.header.size (elim (cases_eq n top) [
          | inl same ↦
              let sized : image.header.size ≡ row.size = rw driver at (joined.sized n row there) in
              let is : base ≡ Some c = sym are.backing ∙ ap (backing_of then') (sym same) ∙ at in
              let has_top : HasSize nodes top row.size = record { row = row; there = ap (row_at nodes) (sym same) ∙ there; is = refl } in
              subst (HasSize nodes c) (sym sized) (base_sized top c row.size has_top (subst (IsOverBase nodes top) is over))
          | inr other ↦ has.backing c (sym (are.others n Backing (λ is. absurd (other is))) ∙ at)
        ]);
      }

      below_then : (d : Driver) → row.driver ≡ d → HasBelow nodes n row.size d → HasBelow then' n row.size d
      below_then File driver has = has
      below_then (Raw part) driver has =
          let sizes = sizes_same nodes kinds edges joined has.file in
          let within = has.within in
          record { file = has.file; edge = file_same n ∙ has.edge; is_file = file_then nodes kinds edges joined has.file has.is_file; within = omega (arith, sizes, within) }
      below_then (Qcow2 image) driver has = overlay_then image driver has
      below_then CopyOnRead driver has =
          record { child = has.child; edge = file_same n ∙ has.edge; same = size_then nodes kinds edges joined has.child row.size has.same }
      below_then (Filter kind) driver has = λ c at. size_then nodes kinds edges joined c row.size (has c (sym (filtered_same n) ∙ at))

    pub rebased_wiring : AreKindsKept nodes kinds → IsSoundGraph (record nodes.graph { kinds = kinds; edges = edges }) → IsWiring nodes kinds edges
    rebased_wiring alike sound = record {
      sound = sound;
      alike = alike;
      below = λ n row there. below_then n row there row.driver refl (joined.below n row there);
    }
