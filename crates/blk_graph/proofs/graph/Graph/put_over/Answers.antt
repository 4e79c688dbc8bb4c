use Rattle.std.proofs.Common.{◌≡◌, ◌∙◌, ap, sym, refl, Some}
use Rattle.blk_graph.specs.Edits.{with_edge, with_over, with_replaced}
use Rattle.blk_graph.specs.declared.edge.Parent.TheVariants.{Node}
use Rattle.blk_graph.specs.declared.edge.Role.TheVariants.{Backing}
use Rattle.blk_graph.specs.Permissions.{node_edge}
use Rattle.blk_graph.proofs.FitLemmas.{IsFit-with_edge, IsFit-replaced}
use Rattle.blk_graph.specs.Graph.{Graph, ids, IsFit}
use Rattle.blk_graph.specs.Judged.{IsJudged}
use Rattle.blk_graph.specs.Layout.{graph_of}
use Rattle.blk_graph.proofs.GraphLemmas.{IsKept-judged, judged_lead}
use Rattle.blk_graph.proofs.OverLemmas.{IsAcyclic-with_over}
use Rattle.blk_graph.proofs.graph.Graph.put_over.Goals as goal

abbrev here : (c : goal.After-settle_any) → Graph
here c = graph_of c.self.inside.names c.self.inside.keys c.self.inside.order.items c.self.inside.kinds c.self.inside.edges

made : (c : goal.After-settle_any) → c.replace.new.self ≡ with_over c.args.node c.args.overlay c.self.inside.edges
made c =
    c.replace.ensures.edges
    ∙ ap (with_replaced c.args.node c.args.overlay (Some (Node c.args.overlay)))
    (c.put.ensures.edges ∙ rw (c.of_node.ensures.edge, c.copy_from.ensures) refl)

fit : (c : goal.After-settle_any) → IsFit (here c) (with_over c.args.node c.args.overlay c.self.inside.edges)
fit c =
    IsFit-replaced (here c) c.args.node c.args.overlay (Some (Node c.args.overlay))
    (with_edge (node_edge c.args.overlay Backing c.args.node) c.self.inside.edges)
    (rw (← c.self.view_is) at c.requires.overlay)
    (IsFit-with_edge (here c) (node_edge c.args.overlay Backing c.args.node) c.self.inside.edges
    (record {
      parent = rw (← c.self.view_is) at c.requires.overlay;
      child = rw (← c.self.view_is) at c.requires.node;
      table = rw (← c.self.view_is) at c.requires.kind;
    }) c.self.invariant.sound.fit)

judged : (c : goal.After-settle_any) → IsJudged (ids (here c)) c.self.inside.kinds (with_over c.args.node c.args.overlay c.self.inside.edges) c.settle_any.result
judged c =
    judged_lead c.self.inside.names c.self.inside.keys c.self.inside.order.items c.self.inside.kinds c.self.inside.edges _ c.self.invariant
    (with_over c.args.node c.args.overlay c.self.inside.edges) c.as_slice.result.now c.settle_any.result c.as_slice.ensures.value (fit c)
    (rw (← made c) c.settle_any.ensures.judged)

pub invariant_of-self : goal.invariant_of-self
invariant_of-self c =
    IsKept-judged c.self.inside.names c.self.inside.keys c.self.inside.order.items c.self.inside.kinds c.self.inside.edges _ c.self.invariant
    (with_over c.args.node c.args.overlay c.self.inside.edges) c.settle_any.new.edges c.settle_any.result (fit c) (judged c)
    (rw (← made c) c.settle_any.ensures.ok) c.settle_any.ensures.err

pub returns-clause-judged : goal.returns-clause-judged
returns-clause-judged c = rw (sym c.self.view_is) (judged c)

pub returns-clause-sound : goal.returns-clause-sound
returns-clause-sound c = (invariant_of-self c).sound

pub returns-clause-no_cycle : goal.returns-clause-no_cycle
returns-clause-no_cycle c =
    rw (sym c.self.view_is) (λ apart is.
    let has = (judged c).cycle.0 is in
    IsAcyclic-with_over c.args.node c.args.overlay c.self.inside.edges c.self.invariant.sound.just.acyclic apart has.node has.cycle)
