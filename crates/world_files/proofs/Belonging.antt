-- What the parts of a world that belong together say of the nodes that may go.
use Rattle.std.proofs.Common.{◌≡◌, ℕ, ◌==◌, Option, Some, None, refl, sym, ◌∙◌, ap, subst}
use Rattle.std.specs.Prelude.{IsSome, Contains}
use Rattle.std.proofs.lemmas.Bool.{eqb-true}
use Rattle.blk_graph.specs.declared.edge.Edge.{Edge}
use Rattle.blk_graph.specs.declared.edge.Parent.TheVariants.{Node}
use Rattle.blk_graph.specs.declared.edge.Role.TheVariants.{File}
use Rattle.blk_graph.proofs.Members.{find-Some}
use Rattle.qmp_rules.specs.Table.{RunTable, node_by_id}
use Rattle.qmp_rules.specs.declared.rows.NodeRecord.{NodeRecord}
use Rattle.qmp_rules.specs.Chains.{filter_role}
use Rattle.blk_history.specs.Fold.{With}
use Rattle.flat_machine.specs.Wiring.{TableAtRest}
use Rattle.world_parts.specs.Coherent.{IsCoherent}
use Rattle.world_parts.specs.Deleting.{Ground}
use Rattle.world_files.specs.Deletions.{Belong, IsOnlyUnder}
use Rattle.world_parts.specs.Progress.{Progress}

-- a `file` node that was made with another one is under that alone
pub only_under : (t : RunTable) → TableAtRest t → (row : NodeRecord) (over : ℕ) → Contains t.nodes row → row.made_with ≡ Some over → IsOnlyUnder t row over
only_under t rest row over there made =
    let inline = rest.inline row over there made in
    by_over inline.edge inline.there inline.parent inline.child (node_by_id t over) refl ((rest.stands.edges inline.edge inline.there).parent over inline.parent)
    (λ above at. (rest.stands.taken above row (record {
      over_there = (find-Some (λ (r : NodeRecord). r.id == over) t.nodes above at).0;
      under_there = there;
      edge = inline.edge;
      there = inline.there;
      parent = inline.parent ∙ ap (λ (n : ℕ). Node n) (sym (eqb-true above.id over (find-Some (λ (r : NodeRecord). r.id == over) t.nodes above at).1));
      role = inline.role;
      child = inline.child;
    }) inline.file (subst (λ (found : Option NodeRecord). With found (λ node. filter_role node.kind ≡ None)) at inline.format)).sole)
  where
    by_over : (edge : Edge) → Contains t.edges edge → edge.parent ≡ Node over → edge.child ≡ row.id → (found : Option NodeRecord) → node_by_id t over ≡ found → IsSome found
        → ((above : NodeRecord) → node_by_id t over ≡ Some above → (other : Edge) → Contains t.edges other → other.child ≡ row.id → (other.parent ≡ Node above.id) × (other.role ≡ File))
        → IsOnlyUnder t row over
    by_over edge at parent child None is some sole = absurd (let bad : ⊥ = cc some in bad)
    by_over edge at parent child (Some above) is some sole = record {
      edge = edge;
      there = at;
      child = child;
      sole = λ other inside leads.
          (sole above is other inside leads).0
          ∙ ap (λ (n : ℕ). Node n) (eqb-true above.id over (find-Some (λ (r : NodeRecord). r.id == over) t.nodes above is).1);
    }

pub belong_of : (t : RunTable) (x : Ground) (p : Progress) → IsCoherent t x.nodes x.store.opened p → Belong t x
belong_of t x p is = record {
  alike = is.alike;
  apart = is.table.stands.apart;
  inline = only_under t is.table;
  out = is.out;
}
