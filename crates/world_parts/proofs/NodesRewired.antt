-- Nodes that have the kinds and edges of a table with the rows of the one before: their own rows stay, and they are that table's nodes.
use Rattle.std.proofs.Common.{◌≡◌, ℕ, Bool, true, false, not, List, map, Option, Some, None, refl, sym, ◌∙◌, ap, subst}
use Rattle.std.specs.Prelude.{find, option_map, ◌==◌}
use Rattle.std.proofs.lemmas.List.{ext_get_or}
use Rattle.blk_graph.specs.Refreshed.{kind_at}
use Rattle.blk_graph.specs.declared.edge.Edge.{Edge}
use Rattle.blk_graph.specs.declared.kind.NodeKind.{NodeKind}
use Rattle.qmp_rules.specs.Table.{RunTable, kinds_of, node_by_id}
use Rattle.qmp_rules.specs.declared.rows.NodeRecord.{NodeRecord}
use Rattle.flat_machine.specs.Wiring.{HaveDistinctIds}
use Rattle.blk_nodes.specs.Jobs.{with_read_only}
use Rattle.blk_nodes.specs.Joined.{IsJoined}
use Rattle.blk_nodes.specs.Nodes.{Nodes, row_at}
use Rattle.blk_nodes.specs.Rewiring.{rewired, rows_by}
use Rattle.blk_nodes.specs.declared.row.Row.{Row}
use Rattle.blk_nodes.proofs.Rewired.{row_then}
use Rattle.world_parts.specs.Coherent.{AreAlike, AreNodesOf, node_row}
use Rattle.world_parts.proofs.TableKinds.{kinds_alike}

not-not : (b : Bool) → not (not b) ≡ b
not-not true = refl
not-not false = refl

-- of the nodes' own kinds, rows stay as they are
module _ (nodes : Nodes) (kinds : List NodeKind) (edges : List Edge) (joined : IsJoined nodes) (same : kinds ≡ nodes.graph.kinds) where
  pub row_stays : (n : ℕ) → row_at (rewired kinds edges nodes) n ≡ row_at nodes n
  row_stays n = row_then nodes kinds edges joined n ∙ by_row (row_at nodes n) refl
    where
      by_row : (found : Option Row) → row_at nodes n ≡ found → option_map (with_read_only (not (kind_at kinds n).writes)) found ≡ found
      by_row None is = refl
      by_row (Some row) is =
          let writes : (kind_at kinds n).writes ≡ not row.is_read_only
          = ap (λ (ks : List NodeKind). (kind_at ks n).writes) same ∙ ap (λ (k : NodeKind). k.writes) (joined.kinds n row is) in
          ap (λ (b : Bool). Some (with_read_only (not b) row)) writes ∙ ap (λ (b : Bool). Some (with_read_only b row)) (not-not row.is_read_only)

  pub rows_stay : IsJoined (rewired kinds edges nodes) → rows_by 64 kinds nodes.rows ≡ nodes.rows
  rows_stay after =
      ext_get_or None (rows_by 64 kinds nodes.rows) nodes.rows (after.rows ∙ sym joined.rows) (λ n within. row_stays n)

-- with the kinds and edges of a table whose rows and edges are those of theirs they are what they were
pub same_rewired : (t u : RunTable) (nodes : Nodes) → AreNodesOf t nodes → HaveDistinctIds t → IsJoined nodes
    → IsJoined (rewired (kinds_of u.nodes) u.edges nodes) → u.nodes ≡ t.nodes → u.edges ≡ t.edges → rewired (kinds_of u.nodes) u.edges nodes ≡ nodes
same_rewired t u nodes alike apart joined after rows edges =
    let kinds : kinds_of u.nodes ≡ nodes.graph.kinds = ap kinds_of rows ∙ kinds_alike t nodes joined apart alike.rows in
    let made : List NodeKind → List Edge → List (Option Row) → Nodes
    = λ ks es rs. record nodes { graph = record nodes.graph { kinds = ks; edges = es }; rows = rs } in
    ap (λ (ks : List NodeKind). made ks u.edges (rows_by 64 (kinds_of u.nodes) nodes.rows)) kinds
    ∙ ap (λ (es : List Edge). made nodes.graph.kinds es (rows_by 64 (kinds_of u.nodes) nodes.rows)) (edges ∙ sym alike.edges)
    ∙ ap (made nodes.graph.kinds nodes.graph.edges) (rows_stay nodes (kinds_of u.nodes) u.edges joined kinds after)

-- and they are its nodes
pub nodes_rewired : (t u : RunTable) (nodes : Nodes) → AreNodesOf t nodes → HaveDistinctIds t → IsJoined nodes → u.nodes ≡ t.nodes
    → AreNodesOf u (rewired (kinds_of u.nodes) u.edges nodes)
nodes_rewired t u nodes alike apart joined rows = record {
  listed = alike.listed ∙ ap (map node_row) (sym rows);
  edges = refl;
  rows = λ n.
      subst (AreAlike (node_by_id u n)) (sym (row_stays nodes (kinds_of u.nodes) u.edges joined kinds n))
      (subst (λ (r : Option NodeRecord). AreAlike r (row_at nodes n)) (sym (ap (find (λ (r : NodeRecord). r.id == n)) rows)) (alike.rows n));
}
  where
    kinds : kinds_of u.nodes ≡ nodes.graph.kinds
    kinds = ap kinds_of rows ∙ kinds_alike t nodes joined apart alike.rows
