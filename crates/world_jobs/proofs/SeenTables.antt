-- A table whose rows say what the nodes are: its edges fit these.
use Rattle.std.proofs.Common.{◌≡◌, ℕ, Option, Some, None, refl, sym, ◌∙◌, ap, subst}
use Rattle.std.specs.Prelude.{Contains, IsSome}
use Rattle.blk_graph.specs.declared.edge.Edge.{Edge}
use Rattle.blk_graph.specs.declared.edge.Parent.{Parent}
use Rattle.blk_graph.specs.declared.edge.Parent.TheVariants.{Guest, Job, Node}
use Rattle.blk_graph.specs.declared.kind.NodeKind.{NodeKind}
use Rattle.blk_graph.specs.Edges.{HasNumber}
use Rattle.blk_graph.specs.Graph.{HasNode, HasParent}
use Rattle.blk_graph.specs.Refreshed.{kind_at, no_kind}
use Rattle.blk_nodes.specs.Joined.{IsJoined}
use Rattle.blk_nodes.specs.Nodes.{Nodes, driver_kind, row_at}
use Rattle.blk_nodes.specs.declared.row.Row.{Row}
use Rattle.flat_machine.specs.Suiting.{IsThere}
use Rattle.flat_machine.specs.Wiring.{TableStands}
use Rattle.flat_machine.proofs.RowKinds.{kind_by, kind_of_none, kind_or, length-kinds_of}
use Rattle.job_tables.specs.Jobs.{EdgesAreDrawn}
use Rattle.qmp_rules.specs.Table.{RunTable, kinds_of, node_by_id}
use Rattle.qmp_rules.specs.declared.rows.NodeRecord.{NodeRecord}
use Rattle.world_jobs.proofs.Wirings.{EdgesFit}

-- a row says what a node is
pub record IsSeen (record' : NodeRecord) (row : Row) : Type 0 where
  pub kind : record'.kind ≡ driver_kind row.driver
  pub size : record'.size ≡ row.size

abbrev pub AreSeen : Option NodeRecord → Option Row → Type 0
AreSeen None None = Unit {0}
AreSeen (Some a) (Some b) = IsSeen a b
AreSeen _ _ = ⊥

module _ (u : RunTable) (nodes : Nodes) (joined : IsJoined nodes) (stands : TableStands u) (drawn : EdgesAreDrawn u)
    (seen : (n : ℕ) → AreSeen (node_by_id u n) (row_at nodes n)) where
  pub record HasRow (n : ℕ) (listed : NodeRecord) : Type 0 where
    pub row : Row
    pub there : row_at nodes n ≡ Some row
    pub is : IsSeen listed row

  pub record IsListedSo (n : ℕ) (row : Row) : Type 0 where
    pub listed : NodeRecord
    pub found : node_by_id u n ≡ Some listed
    pub is : IsSeen listed row

  pub row_of : (n : ℕ) (listed : NodeRecord) → node_by_id u n ≡ Some listed → HasRow n listed
  row_of n listed found = by_row (row_at nodes n) refl (subst (λ (x : Option NodeRecord). AreSeen x (row_at nodes n)) found (seen n))
    where
      by_row : (row : Option Row) → row_at nodes n ≡ row → AreSeen (Some listed) row → HasRow n listed
      by_row None there bad = absurd bad
      by_row (Some row) there is = record { row = row; there = there; is = is }

  pub listed_so : (n : ℕ) (row : Row) → row_at nodes n ≡ Some row → IsListedSo n row
  listed_so n row there = by_row (node_by_id u n) refl (subst (AreSeen (node_by_id u n)) there (seen n))
    where
      by_row : (listed : Option NodeRecord) → node_by_id u n ≡ listed → AreSeen listed (Some row) → IsListedSo n row
      by_row None found bad = absurd bad
      by_row (Some listed) found is = record { listed = listed; found = found; is = is }

  is_node : (n : ℕ) → IsThere u n → HasNode nodes.graph n
  is_node n some = by_row (node_by_id u n) refl some
    where
      by_row : (found : Option NodeRecord) → node_by_id u n ≡ found → IsSome found → HasNode nodes.graph n
      by_row None is none = absurd (let bad : ⊥ = cc none in bad)
      by_row (Some listed) is some = joined.only n (subst IsSome (sym (row_of n listed is).there) refl)

  has_parent : (e : Edge) → Contains u.edges e → (p : Parent) → e.parent ≡ p → HasNumber p → HasParent nodes.graph p
  has_parent e at (Node n) from number = is_node n ((stands.edges e at).parent n from)
  has_parent e at (Guest g) from number = number
  has_parent e at (Job slot) from number = number

  pub edges_fit : EdgesFit nodes (kinds_of u.nodes) u.edges
  edges_fit = record {
    count = length-kinds_of u.nodes;
    vacant = λ n absent. vacant n absent (node_by_id u n) refl;
    alike = λ n row there.
        let is = listed_so n row there in
        let small = joined.sound.small n (joined.only n (subst IsSome (sym there) refl)) in
        ap (λ (k : NodeKind). k.kind) (kind_by u n stands.apart small ∙ ap (kind_or no_kind) is.found) ∙ is.is.kind;
    fit = record {
      each = λ e at. record {
        parent = has_parent e at e.parent refl (drawn.listed.each e at).number;
        child = is_node e.child (stands.edges e at).child;
        table = drawn.table e at;
      };
      places = drawn.listed.places;
    };
    acyclic = stands.acyclic;
    derived = drawn.refreshed;
    rule = drawn.rule;
  }
    where
      vacant : (n : ℕ) → (HasNode nodes.graph n → ⊥) → (found : Option NodeRecord) → node_by_id u n ≡ found → kind_at (kinds_of u.nodes) n ≡ no_kind
      vacant n absent None is = kind_of_none u n is
      vacant n absent (Some row) is = absurd (absent (is_node n (subst IsSome (sym is) refl)))
