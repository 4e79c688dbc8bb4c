use Rattle.std.proofs.Common.{◌≡◌, ◌∙◌, ap, sym, subst}
use Rattle.blk_graph.specs.Edits.{with_pivot}
use Rattle.blk_graph.specs.Filters.{LeavesRoom}
use Rattle.blk_graph.specs.Graph.{Graph, ids, IsFit}
use Rattle.blk_graph.specs.Judged.{IsJudged}
use Rattle.blk_graph.specs.Layout.{graph_of}
use Rattle.blk_graph.specs.Refreshed.{refreshed}
use Rattle.blk_graph.specs.Rule.{KeepsPermissions}
use Rattle.blk_graph.proofs.FitLemmas.{listed_fit}
use Rattle.blk_graph.proofs.GraphLemmas.{IsKept-judged, judged_lead}
use Rattle.blk_graph.proofs.JudgeLemmas.{no_conflict}
use Rattle.blk_graph.proofs.PivotLemmas.{IsFit-pivot, acyclic_below, KeepsPermissions-pivot}
use Rattle.blk_graph.proofs.graph.Graph.pivot.Goals as goal

abbrev here : (c : goal.After-settle_any) → Graph
here c = graph_of c.self.inside.names c.self.inside.keys c.self.inside.order.items c.self.inside.kinds c.self.inside.edges

made : (c : goal.After-settle_any) → c.pivot.new.self ≡ with_pivot c.args.filter c.args.to c.args.job c.self.inside.edges
made c = c.pivot.ensures.edges ∙ ap (with_pivot c.args.filter c.args.to c.args.job) c.copy_from.ensures

fit : (c : goal.After-settle_any) → IsFit (here c) (with_pivot c.args.filter c.args.to c.args.job c.self.inside.edges)
fit c =
    IsFit-pivot (here c) c.args.filter c.args.to c.args.job c.self.inside.edges (rw (← c.self.view_is) at c.requires) c.self.invariant.sound.fit

judged : (c : goal.After-settle_any) → IsJudged (ids (here c)) c.self.inside.kinds (with_pivot c.args.filter c.args.to c.args.job c.self.inside.edges) c.settle_any.result
judged c =
    judged_lead c.self.inside.names c.self.inside.keys c.self.inside.order.items c.self.inside.kinds c.self.inside.edges _ c.self.invariant
    (with_pivot c.args.filter c.args.to c.args.job c.self.inside.edges) c.as_slice.result.now c.settle_any.result c.as_slice.ensures.value (fit c)
    (rw (← made c) c.settle_any.ensures.judged)

rule : (c : goal.After-settle_any) → LeavesRoom c.self.inside.edges c.args.filter c.args.to c.args.job
    → KeepsPermissions (refreshed c.self.inside.kinds (with_pivot c.args.filter c.args.to c.args.job c.self.inside.edges))
rule c room =
    KeepsPermissions-pivot (here c) c.self.inside.edges c.args.filter c.args.to c.args.job room
    (listed_fit (here c) c.self.invariant.sound.small c.self.inside.edges c.self.invariant.sound.fit) c.self.invariant.sound.fit
    c.self.invariant.sound.just.refreshed c.self.invariant.sound.just.rule

pub invariant_of-self : goal.invariant_of-self
invariant_of-self c =
    IsKept-judged c.self.inside.names c.self.inside.keys c.self.inside.order.items c.self.inside.kinds c.self.inside.edges _ c.self.invariant
    (with_pivot c.args.filter c.args.to c.args.job c.self.inside.edges) c.settle_any.new.edges c.settle_any.result (fit c) (judged c)
    (rw (← made c) c.settle_any.ensures.ok) c.settle_any.ensures.err

pub returns-clause-judged : goal.returns-clause-judged
returns-clause-judged c =
    subst (λ (g : Graph). IsJudged (ids g) g.kinds (with_pivot c.args.filter c.args.to c.args.job g.edges) c.settle_any.result) c.self.view_is
    (judged c)

pub returns-clause-sound : goal.returns-clause-sound
returns-clause-sound c = (invariant_of-self c).sound

pub returns-clause-no_conflict : goal.returns-clause-no_conflict
returns-clause-no_conflict c =
    rw (sym c.self.view_is) (λ room pair is.
    no_conflict (ids (here c)) c.self.inside.kinds (with_pivot c.args.filter c.args.to c.args.job c.self.inside.edges) c.settle_any.result
    (judged c) (rule c room) pair is)

pub returns-clause-below : goal.returns-clause-below
returns-clause-below c =
    rw (sym c.self.view_is) (λ room leads.
    (judged c).ok.1 (
      acyclic_below (here c) c.self.inside.edges c.args.filter c.args.to c.args.job room
          (listed_fit (here c) c.self.invariant.sound.small c.self.inside.edges c.self.invariant.sound.fit) c.self.invariant.sound.fit
          leads c.self.invariant.sound.just.acyclic,
      rule c room,
    ))
