-- Nodes that are linked by their backing children are a chain, and chains stay where one node is written.
use Rattle.std.proofs.Common.{◌≡◌, ◌≢◌, ◌==◌, ℕ, zero, suc, Bool, true, false, cond, List, [], ◌∷◌, ◌++◌, Option, Some, None, refl, sym, ◌∙◌, ap, subst, arith}
use Rattle.std.specs.Prelude.{Contains, IsSome, find, option_map}
use Rattle.std.proofs.lemmas.Bool.{and_parts, eqb-true, eq-eqb}
use Rattle.blk_graph.specs.Edges.{same_parent, same_role}
use Rattle.blk_graph.specs.Edits.{child_of, is_edge}
use Rattle.blk_graph.specs.Paths.{Reaches}
use Rattle.blk_graph.specs.Permissions.{has_role}
use Rattle.blk_graph.specs.Refreshed.{IsOf, kind_at}
use Rattle.blk_graph.specs.declared.edge.Edge.{Edge}
use Rattle.blk_graph.specs.declared.edge.Parent.{Parent}
use Rattle.blk_graph.specs.declared.edge.Parent.TheVariants.{Node}
use Rattle.blk_graph.specs.declared.edge.Role.{Role}
use Rattle.blk_graph.specs.declared.edge.Role.TheVariants.{Backing}
use Rattle.blk_graph.specs.declared.kind.NodeKind.{NodeKind}
use Rattle.blk_graph.specs.Graph.{HasParent}
use Rattle.blk_graph.proofs.ChildLemmas.{child-edge}
use Rattle.blk_graph.proofs.CycleLemmas.{same_parent-true}
use Rattle.blk_graph.proofs.Members.{find-Some}
use Rattle.blk_graph.proofs.PathLemmas.{Reaches-edge, Reaches-joined}
use Rattle.blk_graph.proofs.RoleLemmas.{same_role-true}
use Rattle.q2_image.specs.Image.{Known}
use Rattle.blk_nodes.specs.Joined.{IsJoined}
use Rattle.blk_nodes.specs.Nodes.{Nodes, driver_kind, row_at, backing_of}
use Rattle.blk_nodes.specs.Parts.{IsImage}
use Rattle.blk_nodes.specs.declared.row.Driver.{Driver}
use Rattle.blk_nodes.specs.declared.row.Driver.TheVariants.{File, Raw, Qcow2, CopyOnRead, Filter}
use Rattle.blk_nodes.specs.declared.row.FilterKind.{FilterKind}
use Rattle.blk_nodes.specs.declared.row.FilterKind.TheVariants as filters
use Rattle.blk_nodes.specs.declared.row.Row.{Row}
use Rattle.blk_nodes.proofs.Rows.{of_image}
use Rattle.blk_nodes.proofs.Unfolding.{StartsAt, no_path}
use Rattle.node_copies.specs.Between.{below_by, below_of, chain_end, end_in}
use Rattle.chain_copies.specs.Commits.{AreLinkedIn}
use Rattle.chain_copies.proofs.CommitsKept.{below_in, ends_on, starts_on}

-- ---- only images have backing children

-- an edge of a role leads from a node
pub record HasEdgeOf (edges : List Edge) (node : ℕ) (role : Role) : Type 0 where
  pub edge : Edge
  pub there : Contains edges edge
  pub from : edge.parent ≡ Node node
  pub role_is : edge.role ≡ role

pub edge_of : (edges : List Edge) (node : ℕ) (role : Role) (child : ℕ) → child_of (Node node) role edges ≡ Some child → HasEdgeOf edges node role
edge_of edges node role child is = by (find (is_edge (Node node) role) edges) refl is
  where
    by : (found : Option Edge) → find (is_edge (Node node) role) edges ≡ found → option_map (λ (e : Edge). e.child) found ≡ Some child → HasEdgeOf edges node role
    by None found is = absurd cc
    by (Some e) found is =
        let it = find-Some (is_edge (Node node) role) edges e found in
        let parts = and_parts (same_parent e.parent (Node node)) (same_role e.role role) it.1 in
        record { edge = e; there = it.0; from = same_parent-true e.parent (Node node) parts.0; role_is = same_role-true e.role role parts.1 }

filter_none : (kind : FilterKind) → has_role (driver_kind (Filter kind)) Backing ≡ true → ⊥
filter_none filters.BeforeWrite is = cc is
filter_none filters.Mirror is = cc is
filter_none filters.Commit is = cc is

image_by : (d : Driver) → has_role (driver_kind d) Backing ≡ true → (image : Known) × (d ≡ Qcow2 image)
image_by File is = absurd (cc is)
image_by (Raw part) is = absurd (cc is)
image_by (Qcow2 image) is = (image, refl)
image_by CopyOnRead is = absurd (cc is)
image_by (Filter kind) is = absurd (filter_none kind is)

pub record IsImageAt (nodes : Nodes) (node : ℕ) : Type 0 where
  pub row : Row
  pub image : Known
  pub there : row_at nodes node ≡ Some row
  pub driver : row.driver ≡ Qcow2 image

pub image_over : (nodes : Nodes) (node below : ℕ) → IsJoined nodes → backing_of nodes node ≡ Some below → IsImageAt nodes node
image_over nodes node below joined is =
    let e = edge_of nodes.graph.edges node Backing below is in
    let fit = joined.sound.fit.each e.edge e.there in
    let Has : Parent → Type 0 = HasParent nodes.graph in
    let has : IsSome (row_at nodes node) = joined.there node (subst Has e.from fit.parent) in
    let may : has_role (kind_at nodes.graph.kinds node).kind Backing ≡ true
    = subst (λ (r : Role). has_role (kind_at nodes.graph.kinds node).kind r ≡ true) e.role_is (subst (IsOf nodes.graph.kinds e.edge) e.from fit.table) in
    by (row_at nodes node) refl has may
  where
    by : (found : Option Row) → row_at nodes node ≡ found → IsSome found → has_role (kind_at nodes.graph.kinds node).kind Backing ≡ true → IsImageAt nodes node
    by None there has may = absurd (cc has)
    by (Some row) there has may =
        let kind : has_role (driver_kind row.driver) Backing ≡ true = sym (ap (λ (k : NodeKind). has_role k.kind Backing) (joined.kinds node row there)) ∙ may in
        let image = image_by row.driver kind in
        record { row = row; image = image.0; there = there; driver = image.1 }

pub images_linked : (nodes : Nodes) (node below : ℕ) → IsJoined nodes → backing_of nodes node ≡ Some below → IsImage nodes node
images_linked nodes node below joined is =
    let at = image_over nodes node below joined is in
    of_image (row_at nodes node) at.row at.image (λ _. Unit {0}) at.there at.driver tt

-- ---- they are a chain

module _ (nodes : Nodes) (joined : IsJoined nodes) where
  below_is : (node below : ℕ) → backing_of nodes node ≡ Some below → below_of nodes node ≡ Some below
  below_is node below is =
      let at = image_over nodes node below joined is in
      ap (below_in nodes node) at.there ∙ ap (below_by nodes node) at.driver ∙ is

  starts_above : (turns node below : ℕ) → backing_of nodes node ≡ Some below → StartsAt nodes.graph.edges turns below → StartsAt nodes.graph.edges (suc turns) node
  starts_above turns node below is starts =
      starts_on nodes.graph.edges turns node below (child-edge (Node node) Backing nodes.graph.edges below is) starts

  module _ (base : ℕ) where
    at_base : (turns : ℕ) → (StartsAt nodes.graph.edges turns base → ⊥) → end_in turns nodes (Some base) base ≡ Some base
    at_base zero none = absurd (none tt)
    at_base (suc turns) none = rw (eq-eqb base base refl) refl

    down : (turns node below : ℕ) → backing_of nodes node ≡ Some below → end_in turns nodes (Some base) below ≡ Some base
        → end_in (suc turns) nodes (Some base) node ≡ Some base
    down turns node below is rest = by (node == base) refl
      where
        by : (b : Bool) → (node == base) ≡ b → cond b (Some node) (ends_on turns nodes (Some base) (below_of nodes node)) ≡ Some base
        by true same = ap Some (eqb-true node base same)
        by false other = ap (ends_on turns nodes (Some base)) (below_is node below is) ∙ rest

    linked_in : (turns node : ℕ) (between : List ℕ) → (StartsAt nodes.graph.edges turns node → ⊥) → AreLinkedIn nodes node (between ++ base ∷ [])
        → end_in turns nodes (Some base) node ≡ Some base
    linked_in zero node between none linked = absurd (none tt)
    linked_in (suc turns) node [] none linked =
        down turns node base linked.0 (at_base turns (λ starts. none (starts_above turns node base linked.0 starts)))
    linked_in (suc turns) node (next ∷ between) none linked =
        down turns node next linked.0 (linked_in turns next between (λ starts. none (starts_above turns node next linked.0 starts)) linked.1)

    pub linked_ends : (top : ℕ) (between : List ℕ) → AreLinkedIn nodes top (between ++ base ∷ []) → chain_end nodes (Some base) top ≡ Some base
    unfolding chain_end
    linked_ends top between linked = linked_in 64 top between (no_path nodes joined 64 (omega arith) top) linked

    step : (node below : ℕ) → backing_of nodes node ≡ Some below → Reaches nodes.graph.edges node below
    step node below is =
        let e = child-edge (Node node) Backing nodes.graph.edges below is in
        subst (Reaches nodes.graph.edges node) e.to (Reaches-edge nodes.graph.edges node e.edge e.there e.from)

    reached : (node : ℕ) (between : List ℕ) → AreLinkedIn nodes node (between ++ base ∷ []) → Reaches nodes.graph.edges node base
    reached node [] linked = step node base linked.0
    reached node (next ∷ between) linked = Reaches-joined nodes.graph.edges node next base (step node next linked.0) (reached next between linked.1)

    pub linked_apart : (top : ℕ) (between : List ℕ) → AreLinkedIn nodes top (between ++ base ∷ []) → top ≢ base
    linked_apart top between linked same =
        joined.sound.just.acyclic base (subst (λ (n : ℕ). Reaches nodes.graph.edges n base) same (reached top between linked))
