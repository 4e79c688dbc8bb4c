-- The edges of a table are drawn where its nodes are those of a graph, and its nodes have numbers that a graph's have.
use Rattle.std.proofs.Common.{List, sym, subst}
use Rattle.std.specs.Prelude.{Contains}
use Rattle.blk_graph.specs.declared.edge.Edge.{Edge}
use Rattle.blk_graph.specs.declared.kind.NodeKind.{NodeKind}
use Rattle.blk_graph.specs.Edges.{IsListed}
use Rattle.blk_graph.specs.Graph.{NodeRow}
use Rattle.blk_graph.specs.Refreshed.{IsByTable, IsRefreshed}
use Rattle.blk_graph.specs.Rule.{KeepsPermissions}
use Rattle.blk_graph.proofs.FitLemmas.{listed_fit}
use Rattle.blk_graph.proofs.Members.{map-Contains}
use Rattle.blk_nodes.specs.Joined.{IsJoined}
use Rattle.blk_nodes.specs.Nodes.{Nodes}
use Rattle.qmp_rules.specs.Table.{RunTable, kinds_of}
use Rattle.flat_machine.specs.Wiring.{HaveDistinctIds}
use Rattle.job_tables.specs.Accepted.{HaveSmallIds}
use Rattle.job_tables.specs.Jobs.{EdgesAreDrawn}
use Rattle.world_parts.specs.Coherent.{AreNodesOf, node_row}
use Rattle.world_parts.proofs.TableKinds.{kinds_alike}

pub drawn_by_nodes : (t : RunTable) (nodes : Nodes) → HaveDistinctIds t → AreNodesOf t nodes → IsJoined nodes → EdgesAreDrawn t × HaveSmallIds t
drawn_by_nodes t nodes apart alike joined = (drawn, small)
  where
    drawn : EdgesAreDrawn t
    drawn =
        let kinds = kinds_alike t nodes joined apart alike.rows in
        record {
          listed = subst IsListed alike.edges (listed_fit nodes.graph joined.sound.small nodes.graph.edges joined.sound.fit);
          table = λ edge there.
              subst (λ (ks : List NodeKind). IsByTable ks edge) (sym kinds)
              (joined.sound.fit.each edge (subst (λ (es : List Edge). Contains es edge) (sym alike.edges) there)).table;
          refreshed =
              subst (IsRefreshed (kinds_of t.nodes)) alike.edges
              (subst (λ (ks : List NodeKind). IsRefreshed ks nodes.graph.edges) (sym kinds) joined.sound.just.refreshed);
          rule = subst KeepsPermissions alike.edges joined.sound.just.rule;
        }

    small : HaveSmallIds t
    small row there =
        joined.sound.small row.id
        (map-Contains (λ (r : NodeRow). r.id) nodes.graph.nodes (node_row row)
        (subst (λ (rows : List NodeRow). Contains rows (node_row row)) (sym alike.listed) (map-Contains node_row t.nodes row there)))
