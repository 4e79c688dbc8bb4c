use Rattle.std.proofs.Common.{◌≡◌, ◌∙◌, ap, sym, subst, List, true}
use Rattle.blk_graph.specs.declared.edge.Edge.{Edge}
use Rattle.blk_graph.specs.Graph.{Graph, ids, FitsIn, IsFit}
use Rattle.blk_graph.specs.Judged.{IsJudged}
use Rattle.blk_graph.specs.Layout.{graph_of}
use Rattle.blk_graph.specs.Paths.{IsAcyclic}
use Rattle.blk_graph.specs.Refreshed.{IsByTable}
use Rattle.blk_graph.proofs.GraphLemmas.{IsKept-settled, judged_of}
use Rattle.blk_graph.specs.Edits.{with_edge}
use Rattle.blk_graph.specs.Paths.{LeadsBack}
use Rattle.blk_graph.proofs.CycleLemmas.{IsAcyclic-with_edge, LeadsBack-from_cycle, HasCycle-from_LeadsBack}
use Rattle.blk_graph.specs.Edges.{MayStand}
use Rattle.blk_graph.proofs.FitLemmas.{IsFit-with_edge, stands_fit}
use Rattle.blk_graph.proofs.JudgeLemmas.{IsJudged-cycle}
use Rattle.blk_graph.proofs.graph.Graph.set_edge.Goals as goal

abbrev edited : (c : goal.After-settle) → List Edge
edited c = with_edge c.args.edge c.self.inside.edges

made : (c : goal.After-settle) → c.put.new.self ≡ with_edge c.args.edge c.self.inside.edges
made c = c.put.ensures.edges ∙ ap (with_edge c.args.edge) c.copy_from.ensures

fit : (c : goal.After-settle) → IsFit (graph_of c.self.inside.names c.self.inside.keys c.self.inside.order.items c.self.inside.kinds c.self.inside.edges) (with_edge c.args.edge c.self.inside.edges)
fit c =
    let fits : FitsIn (graph_of c.self.inside.names c.self.inside.keys c.self.inside.order.items c.self.inside.kinds c.self.inside.edges) c.args.edge
    = record {
      parent = rw (← c.self.view_is) at c.requires.parent;
      child = rw (← c.self.view_is) at c.requires.child;
      table = subst (λ (g : Graph). IsByTable g.kinds c.args.edge) (sym c.self.view_is) c.requires.table;
    } in
    IsFit-with_edge _ c.args.edge c.self.inside.edges fits c.self.invariant.sound.fit

acyclic : (c : goal.After-settle) → IsAcyclic (with_edge c.args.edge c.self.inside.edges)
acyclic c = IsAcyclic-with_edge c.args.edge c.self.inside.edges c.self.invariant.sound.just.acyclic
    (λ cycle. let back = LeadsBack-from_cycle c.args.edge c.self.inside.edges c.self.invariant.sound.just.acyclic cycle in
    let is : c.leads_back.result ≡ true = c.leads_back.ensures.1 (rw c.as_slice.ensures.edges back) in
    let no = c.if-leads_back.false in absurd cc)

pub invariant_of-self : goal.invariant_of-self
invariant_of-self c =
    IsKept-settled c.self.inside.names c.self.inside.keys c.self.inside.order.items c.self.inside.kinds c.self.inside.edges _ c.self.invariant
    (with_edge c.args.edge c.self.inside.edges) c.settle.new.edges c.as_slice-2.result.now c.settle.result c.as_slice-2.ensures.value
    (fit c) (acyclic c)
    (rw (← made c) c.settle.ensures.ruled) (rw (← made c) c.settle.ensures.ok) c.settle.ensures.err

judged : (c : goal.After-settle) → IsJudged (ids c.args.self.now) c.args.self.now.kinds (with_edge c.args.edge c.args.self.now.edges) c.settle.result
judged c =
    rw (sym c.self.view_is) (judged_of c.self.inside.names c.self.inside.keys c.self.inside.order.items c.self.inside.kinds c.self.inside.edges _ c.self.invariant
    (with_edge c.args.edge c.self.inside.edges) c.as_slice-2.result.now c.settle.result c.as_slice-2.ensures.value (fit c) (acyclic c)
    (rw (← made c) c.settle.ensures.ruled))

pub returns-clause-judged : goal.returns-clause-judged
returns-clause-judged c = judged c

pub returns-then-leads_back-clause-judged : goal.returns-then-leads_back-clause-judged
returns-then-leads_back-clause-judged c =
    IsJudged-cycle (ids c.args.self.now) c.args.self.now.kinds (with_edge c.args.edge c.args.self.now.edges)
    (HasCycle-from_LeadsBack c.args.edge c.args.self.now.edges
    (let here : LeadsBack c.as_slice.result.now c.args.edge.child c.args.edge.parent = c.leads_back.ensures.0 c.if-leads_back.true in
    rw (sym c.self.view_is) (rw c.as_slice.ensures.edges at here)))

pub returns-clause-sound : goal.returns-clause-sound
returns-clause-sound c = (invariant_of-self c).sound

stands : (c : goal.After-put-arg-1) → MayStand c.args.edge
stands c = stands_fit (graph_of c.self.inside.names c.self.inside.keys c.self.inside.order.items c.self.inside.kinds c.self.inside.edges)
    c.self.invariant.sound.small c.args.edge (record {
      parent = rw (← c.self.view_is) at c.requires.parent;
      child = rw (← c.self.view_is) at c.requires.child;
      table = subst (λ (g : Graph). IsByTable g.kinds c.args.edge) (sym c.self.view_is) c.requires.table;
    })

pub put-requires-clause-role : goal.put-requires-clause-role
put-requires-clause-role c = (stands c).role

pub put-requires-clause-number : goal.put-requires-clause-number
put-requires-clause-number c = (stands c).number
