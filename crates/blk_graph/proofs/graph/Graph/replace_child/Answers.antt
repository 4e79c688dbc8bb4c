use Rattle.std.proofs.Common.{◌≡◌, ◌∙◌, ap, sym, List, true}
use Rattle.blk_graph.specs.declared.edge.Edge.{Edge}
use Rattle.blk_graph.specs.Graph.{Graph, ids, IsFit}
use Rattle.blk_graph.specs.Judged.{IsJudged}
use Rattle.blk_graph.specs.Layout.{graph_of}
use Rattle.blk_graph.specs.Paths.{IsAcyclic, Reaches}
use Rattle.blk_graph.proofs.GraphLemmas.{IsKept-settled, judged_of}
use Rattle.blk_graph.specs.Edits.{with_replaced}
use Rattle.blk_graph.proofs.CycleLemmas.{IsAcyclic-with_replaced}
use Rattle.blk_graph.proofs.FitLemmas.{IsFit-replaced}
use Rattle.blk_graph.proofs.JudgeLemmas.{IsJudged-cycle}
use Rattle.blk_graph.proofs.graph.Graph.replace_child.Goals as goal

abbrev edited : (c : goal.After-settle) → List Edge
edited c = with_replaced c.args.from c.args.to c.args.but c.self.inside.edges

made : (c : goal.After-settle) → c.replace.new.self ≡ with_replaced c.args.from c.args.to c.args.but c.self.inside.edges
made c = c.replace.ensures.edges ∙ ap (with_replaced c.args.from c.args.to c.args.but) c.copy_from.ensures

fit : (c : goal.After-settle) → IsFit (graph_of c.self.inside.names c.self.inside.keys c.self.inside.order.items c.self.inside.kinds c.self.inside.edges) (with_replaced c.args.from c.args.to c.args.but c.self.inside.edges)
fit c = IsFit-replaced _ c.args.from c.args.to c.args.but c.self.inside.edges (rw (← c.self.view_is) at c.requires) c.self.invariant.sound.fit

acyclic : (c : goal.After-settle) → IsAcyclic (with_replaced c.args.from c.args.to c.args.but c.self.inside.edges)
acyclic c = IsAcyclic-with_replaced c.args.from c.args.to c.args.but c.self.inside.edges c.self.invariant.sound.just.acyclic
    (λ cycle. let is : c.reaches.result ≡ true = c.reaches.ensures.1 (rw (made c) cycle) in
    let no = c.if-reaches.false in absurd cc)

pub invariant_of-self-2 : goal.invariant_of-self-2
invariant_of-self-2 c =
    IsKept-settled c.self.inside.names c.self.inside.keys c.self.inside.order.items c.self.inside.kinds c.self.inside.edges _ c.self.invariant
    (with_replaced c.args.from c.args.to c.args.but c.self.inside.edges) c.settle.new.edges c.as_slice.result.now c.settle.result c.as_slice.ensures.value
    (fit c) (acyclic c)
    (rw (← made c) c.settle.ensures.ruled) (rw (← made c) c.settle.ensures.ok) c.settle.ensures.err

judged : (c : goal.After-settle) → IsJudged (ids c.args.self.now) c.args.self.now.kinds (with_replaced c.args.from c.args.to c.args.but c.args.self.now.edges) c.settle.result
judged c =
    rw (sym c.self.view_is) (judged_of c.self.inside.names c.self.inside.keys c.self.inside.order.items c.self.inside.kinds c.self.inside.edges _ c.self.invariant
    (with_replaced c.args.from c.args.to c.args.but c.self.inside.edges) c.as_slice.result.now c.settle.result c.as_slice.ensures.value (fit c) (acyclic c)
    (rw (← made c) c.settle.ensures.ruled))

pub returns-clause-judged : goal.returns-clause-judged
returns-clause-judged c = judged c

pub returns-then-reaches-clause-judged : goal.returns-then-reaches-clause-judged
returns-then-reaches-clause-judged c =
    let list : c.replace.new.self ≡ with_replaced c.args.from c.args.to c.args.but c.args.self.now.edges
    = c.replace.ensures.edges ∙ ap (with_replaced c.args.from c.args.to c.args.but) (c.copy_from.ensures ∙ ap (λ (g : Graph). g.edges) c.self.view_is) in
    let cycle : Reaches c.replace.new.self c.args.to c.args.to = c.reaches.ensures.0 c.if-reaches.true in
    IsJudged-cycle (ids c.args.self.now) c.args.self.now.kinds (with_replaced c.args.from c.args.to c.args.but c.args.self.now.edges)
    (record { node = c.args.to; cycle = rw list at cycle })

pub returns-clause-sound : goal.returns-clause-sound
returns-clause-sound c = (invariant_of-self-2 c).sound
