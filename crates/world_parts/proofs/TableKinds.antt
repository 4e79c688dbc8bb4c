-- The kinds of the nodes are the same by the table's rows and by the nodes' own, so both derive the same edges.
use Rattle.std.proofs.Common.{◌≡◌, ℕ, zero, suc, Bool, not, List, [], ◌∷◌, map, Option, Some, None, refl, sym, ◌∙◌, ap, subst, arith}
use Rattle.std.specs.Prelude.{IsSome, Contains}
use Rattle.std.proofs.lemmas.List.{ext_get_or}
use Rattle.blk_graph.specs.declared.edge.Edge.{Edge}
use Rattle.blk_graph.specs.declared.edge.Parent.{Parent}
use Rattle.blk_graph.specs.declared.edge.Parent.TheVariants.{Node, Guest, Job}
use Rattle.blk_graph.specs.declared.edge.Uses.{Uses}
use Rattle.blk_graph.specs.declared.kind.Kind.{Kind}
use Rattle.blk_graph.specs.declared.kind.NodeKind.{NodeKind}
use Rattle.blk_graph.specs.Permissions.{uses_by}
use Rattle.blk_graph.specs.Refreshed.{kind_at, no_kind, uses_into, with_uses, ruled, ruled_from, turned, turned_by, refreshed}
use Rattle.blk_graph.proofs.Members.{Contains-here, Contains-there, Contains-map}
use Rattle.blk_graph.proofs.RefreshLemmas.{ruled-same}
use Rattle.qmp_rules.specs.Table.{RunTable, node_by_id, kind_of_record, kinds_of}
use Rattle.qmp_rules.specs.declared.rows.NodeRecord.{NodeRecord}
use Rattle.flat_machine.specs.Wiring.{HaveDistinctIds}
use Rattle.flat_machine.proofs.RowKinds.{kind_or, kind_by, length-kinds_of}
use Rattle.blk_nodes.specs.Joined.{IsJoined}
use Rattle.blk_nodes.specs.Nodes.{Nodes, row_at, driver_kind, node_kind}
use Rattle.blk_nodes.specs.declared.row.Row.{Row}
use Rattle.world_parts.specs.Coherent.{IsRowOf, AreAlike}

-- ---- lists

map-same : {A B : Type 0} (f g : A → B) (xs : List A) → ((x : A) → Contains xs x → f x ≡ g x) → map f xs ≡ map g xs
map-same f g [] each = refl
map-same {A} {B} f g (x ∷ xs) each =
    ap (λ (y : B). y ∷ map f xs) (each x (Contains-here x xs))
    ∙ ap (λ (ys : List B). g x ∷ ys) (map-same f g xs (λ y there. each y (Contains-there x xs y there)))

-- ---- table and nodes

kind-alike : (row : NodeRecord) (own : Row) → IsRowOf row own → kind_of_record row ≡ node_kind own
kind-alike row own is =
    ap (λ (k : Kind). let made : NodeKind = record { kind = k; writes = not row.read_only } in made) is.kind
    ∙ ap (λ (b : Bool). let made : NodeKind = record { kind = driver_kind own.driver; writes = not b } in made) is.access

-- the table's kinds are the graph's
pub kinds_alike : (t : RunTable) (nodes : Nodes) → IsJoined nodes → HaveDistinctIds t → ((id : ℕ) → AreAlike (node_by_id t id) (row_at nodes id))
    → kinds_of t.nodes ≡ nodes.graph.kinds
kinds_alike t nodes joined apart alike =
    ext_get_or no_kind (kinds_of t.nodes) nodes.graph.kinds
    (length-kinds_of t.nodes ∙ sym joined.sound.kinds)
    (λ id below. kind_by t id apart (omega (arith, below, length-kinds_of t.nodes)) ∙ at_id id (node_by_id t id) (row_at nodes id) refl (alike id))
  where
    at_id : (id : ℕ) (row : Option NodeRecord) (own : Option Row) → row_at nodes id ≡ own → AreAlike row own
        → kind_or no_kind row ≡ kind_at nodes.graph.kinds id
    at_id id None None there is =
        sym (joined.sound.vacant id (λ has. let bad : IsSome {T = Row} None = subst IsSome there (joined.there id has) in cc bad))
    at_id id (Some row) (Some own) there is = kind-alike row own is ∙ sym (joined.kinds id own there)
    at_id id None (Some own) there is = absurd is
    at_id id (Some row) None there is = absurd is

-- ---- derived edges

-- kinds that agree at each parent derive the same
abbrev AgreeAtParents : List NodeKind → List NodeKind → List Edge → Type 0
AgreeAtParents a b edges = (e : Edge) (n : ℕ) → Contains edges e → e.parent ≡ Node n → kind_at a n ≡ kind_at b n

module _ (a b : List NodeKind) where
  ruled-agree : (above : ℕ → Uses) (e : Edge) → ((n : ℕ) → e.parent ≡ Node n → kind_at a n ≡ kind_at b n) → ruled a above e ≡ ruled b above e
  ruled-agree above e agree = by_parent e.parent agree
    where
      by_parent : (p : Parent) → ((n : ℕ) → p ≡ Node n → kind_at a n ≡ kind_at b n) → ruled_from a above e p ≡ ruled_from b above e p
      by_parent (Node n) at = ap (λ (kind : NodeKind). with_uses e (uses_by kind e.role (above n))) (at n refl)
      by_parent (Guest g) at = refl
      by_parent (Job j) at = refl

  agree-turned : (edges : List Edge) → AgreeAtParents a b edges → AgreeAtParents a b (turned a edges)
  agree-turned edges agree e n there is =
      let from = Contains-map (ruled a (uses_into edges)) edges e there in
      let same = ruled-same a (uses_into edges) from.0 in
      agree from.0 n from.1 (sym same.parent ∙ sym (ap (λ (x : Edge). x.parent) from.2) ∙ is)

  turned-agree : (edges : List Edge) → AgreeAtParents a b edges → turned a edges ≡ turned b edges
  turned-agree edges agree =
      map-same (ruled a (uses_into edges)) (ruled b (uses_into edges)) edges
      (λ e there. ruled-agree (uses_into edges) e (λ n is. agree e n there is))

  agree-turned_by : (edges : List Edge) → AgreeAtParents a b edges → (k : ℕ) → AgreeAtParents a b (turned_by k a edges)
  agree-turned_by edges agree zero = agree
  agree-turned_by edges agree (suc k) = agree-turned (turned_by k a edges) (agree-turned_by edges agree k)

  turned_by-agree : (edges : List Edge) → AgreeAtParents a b edges → (k : ℕ) → turned_by k a edges ≡ turned_by k b edges
  turned_by-agree edges agree zero = refl
  turned_by-agree edges agree (suc k) =
      turned-agree (turned_by k a edges) (agree-turned_by edges agree k) ∙ ap (turned b) (turned_by-agree edges agree k)

  pub refreshed-agree : (edges : List Edge) → AgreeAtParents a b edges → refreshed a edges ≡ refreshed b edges
  unfolding refreshed
  refreshed-agree edges agree = turned_by-agree edges agree 64
