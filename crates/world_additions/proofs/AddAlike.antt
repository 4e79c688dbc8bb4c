-- One more node leaves table and nodes alike.
use Rattle.std.proofs.Common.{◌≡◌, ◌≢◌, ℕ, ◌<◌, ◌==◌, Bool, true, false, cond, List, [], ◌∷◌, ◌++◌, map, set, inl, inr, refl, sym, ◌∙◌, ap, subst, arith, Option, Some, None}
use Rattle.std.specs.Prelude.{Contains, find, nat_eq, slice_index_or}
use Rattle.std.specs.List.{AllByRecursion, IsDistinct}
use Rattle.std.proofs.lemmas.Bool.{cases_eq, eq-eqb, ne_eqb}
use Rattle.std.proofs.lemmas.List.{map-append, get_or-set_same, get_or-set_other}
use Rattle.std.proofs.lemmas.Map.Keys.{IsDistinct-head, IsDistinct-tail}
use Rattle.blk_graph.specs.declared.edge.Edge.{Edge}
use Rattle.blk_graph.specs.declared.kind.NodeKind.{NodeKind}
use Rattle.blk_graph.specs.Graph.{NodeRow, ids}
use Rattle.blk_graph.specs.Refreshed.{refreshed}
use Rattle.blk_graph.proofs.Members.{Contains-cases, Contains-nil}
use Rattle.blk_nodes.specs.Joined.{IsJoined}
use Rattle.blk_nodes.specs.Nodes.{Nodes, row_at}
use Rattle.blk_nodes.specs.declared.row.Row.{Row}
use Rattle.qmp_rules.specs.Table.{RunTable, node_by_id, kinds_of}
use Rattle.qmp_rules.specs.declared.rows.NodeRecord.{NodeRecord}
use Rattle.flat_machine.specs.Wiring.{HaveDistinctIds}
use Rattle.flat_machine.proofs.Fresh.{found-new}
use Rattle.flat_machine.proofs.Tables.{pushed-new}
use Rattle.world_parts.specs.Coherent.{AreAlike, AreNodesOf, IsRowOf, node_row}
use Rattle.world_parts.proofs.TableKinds.{kinds_alike}

-- ---- ids

abbrev pub id_of : NodeRecord → ℕ
id_of row = row.id

ids-mapped : (rows : List NodeRecord) → map (λ (r : NodeRow). r.id) (map node_row rows) ≡ map id_of rows
ids-mapped [] = refl
ids-mapped (row ∷ rows) = ap (λ (l : List ℕ). row.id ∷ l) (ids-mapped rows)

pub ids-alike : (t : RunTable) (nodes : Nodes) → nodes.graph.nodes ≡ map node_row t.nodes → ids nodes.graph ≡ map id_of t.nodes
ids-alike t nodes listed = ap (map (λ (r : NodeRow). r.id)) listed ∙ ids-mapped t.nodes

-- rows of different ids are found by them
not-among : (row other : NodeRecord) (rows : List NodeRecord) → AllByRecursion (λ y. nat_eq row.id y ≡ false) (map id_of rows)
    → Contains rows other → (row.id == other.id) ≡ false
not-among row other [] all there = absurd (Contains-nil other there)
not-among row other (x ∷ rows) all there = elim (Contains-cases x rows other there) [
  | inl here ↦ ap (λ (r : NodeRecord). row.id == r.id) here ∙ all.0
  | inr behind ↦ not-among row other rows all.1 behind
]

apart-rows : (rows : List NodeRecord) → IsDistinct nat_eq (map id_of rows) → (row : NodeRecord) → Contains rows row
    → find (λ r. r.id == row.id) rows ≡ Some row
apart-rows [] distinct row there = absurd (Contains-nil row there)
apart-rows (x ∷ rows) distinct row there = elim (Contains-cases x rows row there) [
  | inl here ↦ rw (ap (λ (r : NodeRecord). x.id == r.id) here ∙ eq-eqb x.id x.id refl, here) refl
  | inr behind ↦
      let apart : (x.id == row.id) ≡ false = not-among x row rows (IsDistinct-head nat_eq x.id (map id_of rows) distinct) behind in
      rw apart (apart-rows rows (IsDistinct-tail nat_eq x.id (map id_of rows) distinct) row behind)
]

pub apart-of : (t : RunTable) (nodes : Nodes) → nodes.graph.nodes ≡ map node_row t.nodes → IsJoined nodes → HaveDistinctIds t
apart-of t nodes listed joined =
    let distinct : IsDistinct nat_eq (map id_of t.nodes) = subst (IsDistinct nat_eq) (ids-alike t nodes listed) joined.sound.different_nodes in
    apart-rows t.nodes distinct

-- ---- rows

pub find-behind : (id : ℕ) (rows : List NodeRecord) (new : NodeRecord) → id ≢ new.id
    → find (λ r. r.id == id) (rows ++ new ∷ []) ≡ find (λ r. r.id == id) rows
find-behind id [] new other = rw (ne_eqb new.id id (λ same. other (sym same))) refl
find-behind id (x ∷ rows) new other = by_test (x.id == id) (find-behind id rows new other)
  where
    by_test : (b : Bool) → find (λ r. r.id == id) (rows ++ new ∷ []) ≡ find (λ r. r.id == id) rows
        → cond b (Some x) (find (λ r. r.id == id) (rows ++ new ∷ [])) ≡ cond b (Some x) (find (λ r. r.id == id) rows)
    by_test true rest = refl
    by_test false rest = rest

-- ---- one more node

module _ (t t' : RunTable) (nodes after : Nodes) (joined : IsJoined nodes) (joined_after : IsJoined after)
    (record' : NodeRecord) (row : Row) (is_row : IsRowOf record' row) (rows : List NodeRecord) (edited : List Edge)
    (names : map node_row rows ≡ map node_row t.nodes) (alike : AreNodesOf t nodes)
    (old : (id : ℕ) → AreAlike (find (λ r. r.id == id) rows) (row_at nodes id))
    (fresh : find (λ r. r.id == record'.id) rows ≡ None)
    (nodes_are : t'.nodes ≡ rows ++ record' ∷ []) (edges_are : t'.edges ≡ refreshed (kinds_of t'.nodes) edited)
    (graph_nodes : after.graph.nodes ≡ nodes.graph.nodes ++ record { id = record'.id; name = record'.name } ∷ [])
    (graph_rows : after.rows ≡ set nodes.rows record'.id (Some row)) (graph_edges : after.graph.edges ≡ refreshed after.graph.kinds edited) where
  listed : after.graph.nodes ≡ map node_row t'.nodes
  listed =
      graph_nodes ∙ ap (λ (l : List NodeRow). l ++ node_row record' ∷ []) (alike.listed ∙ sym names)
      ∙ sym (map-append node_row rows (record' ∷ [])) ∙ ap (map node_row) (sym nodes_are)

  small : record'.id < 64
  small =
      let last : Contains (ids after.graph) record'.id =
      subst (λ (l : List ℕ). Contains l record'.id)
      (sym (map-append (λ (r : NodeRow). r.id) nodes.graph.nodes (record { id = record'.id; name = record'.name } ∷ [])) ∙ ap (map (λ (r : NodeRow). r.id)) (sym graph_nodes))
      (pushed-new (ids nodes.graph) record'.id) in
      joined_after.sound.small record'.id last

  rows-alike : (id : ℕ) → AreAlike (node_by_id t' id) (row_at after id)
  rows-alike id = elim (cases_eq id record'.id) [
    | inl same ↦
        let found : node_by_id t' id ≡ Some record' =
        ap (find (λ (r : NodeRecord). r.id == id)) nodes_are
        ∙ found-new (λ (r : NodeRecord). r.id == id) rows record' (subst (λ (n : ℕ). find (λ (r : NodeRecord). r.id == n) rows ≡ None) (sym same) fresh) (eq-eqb record'.id id (sym same)) in
        let own : row_at after id ≡ Some row =
        ap (λ (l : List (Option Row)). slice_index_or l id None) graph_rows
        ∙ ap (λ (n : ℕ). slice_index_or (set nodes.rows record'.id (Some row)) n None) same
        ∙ get_or-set_same nodes.rows record'.id (Some row) None (let len = joined.rows in let s = small in omega (arith, len, s)) in
        rw (found, own) is_row
    | inr other ↦
        let found : node_by_id t' id ≡ find (λ (r : NodeRecord). r.id == id) rows =
        ap (find (λ (r : NodeRecord). r.id == id)) nodes_are ∙ find-behind id rows record' other in
        let own : row_at after id ≡ row_at nodes id =
        ap (λ (l : List (Option Row)). slice_index_or l id None) graph_rows ∙ get_or-set_other nodes.rows record'.id id (Some row) None other in
        rw (found, own) (old id)
  ]

  pub alike-added : AreNodesOf t' after
  alike-added =
      let kinds : kinds_of t'.nodes ≡ after.graph.kinds = kinds_alike t' after joined_after (apart-of t' after listed joined_after) rows-alike in
      record {
        listed = listed;
        edges = graph_edges ∙ ap (λ (k : List NodeKind). refreshed k edited) (sym kinds) ∙ sym edges_are;
        rows = rows-alike;
      }
