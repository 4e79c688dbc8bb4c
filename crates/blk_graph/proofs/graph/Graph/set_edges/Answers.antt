use Rattle.std.proofs.Common.{◌≡◌, ◌∙◌, ap, sym, subst}
use Rattle.blk_graph.specs.Edits.{with_edge}
use Rattle.blk_graph.proofs.FitLemmas.{IsFit-with_edge}
use Rattle.blk_graph.specs.Graph.{Graph, ids, FitsIn, IsFit}
use Rattle.blk_graph.specs.Judged.{IsJudged}
use Rattle.blk_graph.specs.Layout.{graph_of}
use Rattle.blk_graph.proofs.GraphLemmas.{IsKept-judged, judged_lead}
use Rattle.blk_graph.proofs.DraftLemmas.{acyclic_put}
use Rattle.blk_graph.proofs.graph.Graph.set_edges.Goals as goal

abbrev here : (c : goal.After-settle_any) → Graph
here c = graph_of c.self.inside.names c.self.inside.keys c.self.inside.order.items c.self.inside.kinds c.self.inside.edges

made : (c : goal.After-settle_any) → c.put-2.new.self ≡ with_edge c.args.second (with_edge c.args.first c.self.inside.edges)
made c = c.put-2.ensures.edges ∙ ap (with_edge c.args.second) (c.put.ensures.edges ∙ ap (with_edge c.args.first) c.copy_from.ensures)

fit : (c : goal.After-settle_any) → IsFit (here c) (with_edge c.args.second (with_edge c.args.first c.self.inside.edges))
fit c =
    IsFit-with_edge (here c) c.args.second (with_edge c.args.first c.self.inside.edges)
    (subst (λ (g : Graph). FitsIn g c.args.second) (sym c.self.view_is) c.requires.second)
    (IsFit-with_edge (here c) c.args.first c.self.inside.edges
    (subst (λ (g : Graph). FitsIn g c.args.first) (sym c.self.view_is) c.requires.first) c.self.invariant.sound.fit)

judged : (c : goal.After-settle_any) → IsJudged (ids (here c)) c.self.inside.kinds (with_edge c.args.second (with_edge c.args.first c.self.inside.edges)) c.settle_any.result
judged c =
    judged_lead c.self.inside.names c.self.inside.keys c.self.inside.order.items c.self.inside.kinds c.self.inside.edges _ c.self.invariant
    (with_edge c.args.second (with_edge c.args.first c.self.inside.edges)) c.as_slice.result.now c.settle_any.result c.as_slice.ensures.value (fit c)
    (rw (← made c) c.settle_any.ensures.judged)

pub invariant_of-self : goal.invariant_of-self
invariant_of-self c =
    IsKept-judged c.self.inside.names c.self.inside.keys c.self.inside.order.items c.self.inside.kinds c.self.inside.edges _ c.self.invariant
    (with_edge c.args.second (with_edge c.args.first c.self.inside.edges)) c.settle_any.new.edges c.settle_any.result (fit c) (judged c)
    (rw (← made c) c.settle_any.ensures.ok) c.settle_any.ensures.err

pub returns-clause-judged : goal.returns-clause-judged
returns-clause-judged c = rw (sym c.self.view_is) (judged c)

pub returns-clause-sound : goal.returns-clause-sound
returns-clause-sound c = (invariant_of-self c).sound

pub returns-clause-no_cycle : goal.returns-clause-no_cycle
returns-clause-no_cycle c =
    rw (sym c.self.view_is) (λ first second is.
    let has = (judged c).cycle.0 is in
    acyclic_put c.args.second (with_edge c.args.first c.self.inside.edges) second
    (acyclic_put c.args.first c.self.inside.edges first c.self.invariant.sound.just.acyclic) has.node has.cycle)
