-- The table with one more node: it grows by that node alone.
use Rattle.std.proofs.Common.{◌≡◌, ◌≢◌, ◌⊎◌, ℕ, ◌==◌, Bool, true, false, cond, List, [], ◌∷◌, ◌++◌, inl, inr, refl, sym, ◌∙◌, ap, subst, Option, Some, None}
use Rattle.std.specs.Prelude.{Contains, option_map}
use Rattle.std.proofs.lemmas.Bool.{eq-eqb, eqb-true, false≢true}
use Rattle.blk_graph.specs.declared.edge.Edge.{Edge}
use Rattle.blk_graph.specs.declared.edge.Parent.{Parent}
use Rattle.blk_graph.specs.declared.edge.Parent.TheVariants.{Node}
use Rattle.blk_graph.specs.declared.edge.Role.{Role}
use Rattle.blk_graph.specs.declared.edge.Role.TheVariants.{File, Backing}
use Rattle.blk_graph.specs.Edits.{child_of, with_edge}
use Rattle.blk_graph.specs.Graph.{HasNode}
use Rattle.blk_graph.specs.Permissions.{node_edge}
use Rattle.blk_graph.proofs.ChildLemmas.{child-kept}
use Rattle.blk_graph.proofs.Members.{Contains-cases, Contains-nil, find-Some}
use Rattle.blk_graph.proofs.RefreshLemmas.{child_of-refreshed}
use Rattle.blk_nodes.specs.Joined.{IsJoined}
use Rattle.blk_nodes.specs.Nodes.{Nodes}
use Rattle.qmp_rules.specs.Changes.{changed, with_format_edges, node_changed, unsettled, with_unsettled}
use Rattle.qmp_rules.specs.Table.{RunTable, first_into, kinds_of, node_by_id}
use Rattle.qmp_rules.specs.declared.change.Change.TheVariants.{AddFile, AddFilter, AddFormat}
use Rattle.qmp_rules.specs.declared.rows.NodeRecord.{NodeRecord}
use Rattle.flat_machine.proofs.Finds.{find-map}
use Rattle.world_parts.specs.Coherent.{AreNodesOf}
use Rattle.world_additions.proofs.AddAlike.{find-behind}
use Rattle.world_additions.proofs.AddGrown.{GrowsByNode, StaysRow}

-- ---- edges of nodes that are there

-- none leads to a node that isn't there
pub edges-away : (t : RunTable) (nodes : Nodes) (new : ℕ) → AreNodesOf t nodes → IsJoined nodes → (HasNode nodes.graph new → ⊥)
    → (edge : Edge) → Contains t.edges edge → edge.child ≢ new
edges-away t nodes new alike joined absent edge there = λ same.
    let here : Contains nodes.graph.edges edge = subst (λ (l : List Edge). Contains l edge) (sym alike.edges) there in
    absent (subst (HasNode nodes.graph) same (joined.sound.fit.each edge here).child)

into-head : (id : ℕ) (e : Edge) (edges : List Edge) (edge : Edge) (b : Bool) → (e.child == id) ≡ b → cond b (Some e) (first_into id edges) ≡ None
    → (edge ≡ e) ⊎ Contains edges edge → (first_into id edges ≡ None → Contains edges edge → edge.child ≢ id) → edge.child ≢ id
into-head id e edges edge true t none there rest = absurd (cc none)
into-head id e edges edge false t none (inl here) rest = λ same.
    let yes : (e.child == id) ≡ true = eq-eqb e.child id (ap (λ (f : Edge). f.child) (sym here) ∙ same) in
    false≢true (sym t ∙ yes)
into-head id e edges edge false t none (inr behind) rest = rest none behind

-- none leads to a node without parents
pub edges-apart : (id : ℕ) (edges : List Edge) → first_into id edges ≡ None → (edge : Edge) → Contains edges edge → edge.child ≢ id
edges-apart id [] none edge there = absurd (Contains-nil edge there)
edges-apart id (e ∷ edges) none edge there =
    into-head id e edges edge (e.child == id) refl none (Contains-cases e edges edge there) (λ later behind. edges-apart id edges later edge behind)

-- ---- rows

same-row : (found : Option NodeRecord) → found ≡ option_map (λ (row : NodeRecord). row) found
same-row None = refl
same-row (Some row) = refl

-- ---- a `file` node

module _ (t : RunTable) (nodes : Nodes) (alike : AreNodesOf t nodes) (joined : IsJoined nodes) (row : NodeRecord) (absent : HasNode nodes.graph row.id → ⊥) where
  pub grows-filed : GrowsByNode t (changed t (AddFile row)) row.id row.id (λ r. r)
  unfolding changed
  grows-filed = record {
    rows = λ id other. find-behind id t.nodes row other ∙ same-row (node_by_id t id);
    stays = λ r. record { kind = refl; size = refl; filename = refl };
    settled = λ id r there other. refl;
    children = λ parent role other. child_of-refreshed (kinds_of (t.nodes ++ row ∷ [])) parent role t.edges;
    away = edges-away t nodes row.id alike joined absent;
    lone = edges-away t nodes row.id alike joined absent;
    devices = refl;
  }

  -- a filter
  pub grows-filtered : (child : ℕ) → GrowsByNode t (changed t (AddFilter row child)) row.id row.id (λ r. r)
  unfolding changed
  grows-filtered child = record {
    rows = λ id other. find-behind id t.nodes row other ∙ same-row (node_by_id t id);
    stays = λ r. record { kind = refl; size = refl; filename = refl };
    settled = λ id r there other. refl;
    children = λ parent role other.
        child_of-refreshed (kinds_of (t.nodes ++ row ∷ [])) parent role (with_edge (node_edge row.id File child) t.edges)
        ∙ child-kept parent role (node_edge row.id File child) t.edges (λ same. other (sym same));
    away = edges-away t nodes row.id alike joined absent;
    lone = edges-away t nodes row.id alike joined absent;
    devices = refl;
  }

  -- a format node over a `file` node without parents
  module _ (file : ℕ) (backing : Option ℕ) (none : (edge : Edge) → Contains t.edges edge → edge.child ≢ file) where
    change : NodeRecord → NodeRecord
    change = node_changed file unsettled

    stays-by : (r : NodeRecord) (b : Bool) → StaysRow r (cond b (unsettled r) r)
    stays-by r true = record { kind = refl; size = refl; filename = refl }
    stays-by r false = record { kind = refl; size = refl; filename = refl }

    id-by : (r : NodeRecord) (b : Bool) → (cond b (unsettled r) r).id ≡ r.id
    id-by r true = refl
    id-by r false = refl

    settled-by : (r : NodeRecord) (b : Bool) → (r.id == file) ≡ b → r.id ≢ file → (cond b (unsettled r) r).is_settled ≡ r.is_settled
    settled-by r true is other = absurd (other (eqb-true r.id file is))
    settled-by r false is other = refl

    kept-by : (parent : Parent) (role : Role) (over : Option ℕ) → Node row.id ≢ parent
        → child_of parent role (with_format_edges row.id file over t.edges) ≡ child_of parent role t.edges
    kept-by parent role None other = child-kept parent role (node_edge row.id File file) t.edges other
    kept-by parent role (Some over) other =
        child-kept parent role (node_edge row.id Backing over) (with_edge (node_edge row.id File file) t.edges) other
        ∙ child-kept parent role (node_edge row.id File file) t.edges other

    pub grows-formatted : GrowsByNode t (changed t (AddFormat row file backing)) row.id file (node_changed file unsettled)
    unfolding changed
    grows-formatted = record {
      rows = λ id other.
          find-behind id (with_unsettled file t.nodes) row other
          ∙ find-map (λ (r : NodeRecord). r.id == id) (node_changed file unsettled) (λ r. ap (λ (n : ℕ). n == id) (id-by r (r.id == file))) t.nodes;
      stays = λ r. stays-by r (r.id == file);
      settled = λ id r there other.
          let at : r.id ≡ id = eqb-true r.id id (find-Some (λ (x : NodeRecord). x.id == id) t.nodes r there).1 in
          settled-by r (r.id == file) refl (λ same. other (sym at ∙ same));
      children = λ parent role other.
          child_of-refreshed (kinds_of (with_unsettled file t.nodes ++ row ∷ [])) parent role (with_format_edges row.id file backing t.edges)
          ∙ kept-by parent role backing (λ same. other (sym same));
      away = edges-away t nodes row.id alike joined absent;
      lone = none;
      devices = refl;
    }
