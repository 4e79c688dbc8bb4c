use Rattle.std.proofs.Common.{◌≡◌, ◌∙◌, ap, sym, List}
use Rattle.blk_graph.specs.declared.edge.Edge.{Edge}
use Rattle.blk_graph.specs.Graph.{Graph, ids, IsFit}
use Rattle.blk_graph.specs.Judged.{IsJudged}
use Rattle.blk_graph.specs.Layout.{graph_of}
use Rattle.blk_graph.specs.Paths.{IsAcyclic}
use Rattle.blk_graph.specs.Refreshed.{refreshed}
use Rattle.blk_graph.proofs.GraphLemmas.{IsKept-settled, judged_of}
use Rattle.blk_graph.specs.Edits.{without_filter}
use Rattle.blk_graph.proofs.FilterLemmas.{IsAcyclic-without_filter}
use Rattle.blk_graph.proofs.FitLemmas.{IsFit-without_filter, listed_fit}
use Rattle.std.specs.Prelude.{IsOk, OnOk, Result, Ok, Err}
use Rattle.blk_graph.specs.Rule.{KeepsPermissions}
use Rattle.blk_graph.specs.declared.stop.GraphStop.{GraphStop}
use Rattle.blk_graph.proofs.AlikeLemmas.{filter_back}
use Rattle.blk_graph.proofs.TakeOutLemmas.{KeepsPermissions-without_filter}
use Rattle.blk_graph.proofs.graph.Graph.remove_filter.Goals as goal

abbrev edited : (c : goal.After-settle) → List Edge
edited c = without_filter c.args.filter c.self.inside.edges

made : (c : goal.After-settle) → c.drop_filter.new.self ≡ without_filter c.args.filter c.self.inside.edges
made c = c.drop_filter.ensures.edges ∙ ap (without_filter c.args.filter) c.copy_from.ensures

fit : (c : goal.After-settle) → IsFit (graph_of c.self.inside.names c.self.inside.keys c.self.inside.order.items c.self.inside.kinds c.self.inside.edges) (without_filter c.args.filter c.self.inside.edges)
fit c = IsFit-without_filter _ c.args.filter c.self.inside.edges c.self.invariant.sound.fit

acyclic : (c : goal.After-settle) → IsAcyclic (without_filter c.args.filter c.self.inside.edges)
acyclic c = IsAcyclic-without_filter c.self.inside.edges c.args.filter c.self.invariant.sound.just.acyclic

pub invariant_of-self : goal.invariant_of-self
invariant_of-self c =
    IsKept-settled c.self.inside.names c.self.inside.keys c.self.inside.order.items c.self.inside.kinds c.self.inside.edges _ c.self.invariant
    (without_filter c.args.filter c.self.inside.edges) c.settle.new.edges c.as_slice.result.now c.settle.result c.as_slice.ensures.value
    (fit c) (acyclic c)
    (rw (← made c) c.settle.ensures.ruled) (rw (← made c) c.settle.ensures.ok) c.settle.ensures.err

judged : (c : goal.After-settle) → IsJudged (ids c.args.self.now) c.args.self.now.kinds (without_filter c.args.filter c.args.self.now.edges) c.settle.result
judged c =
    rw (sym c.self.view_is) (judged_of c.self.inside.names c.self.inside.keys c.self.inside.order.items c.self.inside.kinds c.self.inside.edges _ c.self.invariant
    (without_filter c.args.filter c.self.inside.edges) c.as_slice.result.now c.settle.result c.as_slice.ensures.value (fit c) (acyclic c)
    (rw (← made c) c.settle.ensures.ruled))

pub returns-clause-judged : goal.returns-clause-judged
returns-clause-judged c = judged c

pub returns-clause-sound : goal.returns-clause-sound
returns-clause-sound c = (invariant_of-self c).sound

pub returns-clause-transparent : goal.returns-clause-transparent
returns-clause-transparent c =
    rw (sym c.self.view_is) (λ clear.
    let rule = KeepsPermissions-without_filter c.self.inside.kinds c.self.inside.edges c.args.filter clear
    c.self.invariant.sound.just.refreshed c.self.invariant.sound.just.rule in
    (rw (← c.self.view_is) at (judged c)).ok.1 (acyclic c, rule))

pub returns-clause-back : goal.returns-clause-back
returns-clause-back c =
    rw (sym c.self.view_is) (λ edges put.
    let g : Graph = graph_of c.self.inside.names c.self.inside.keys c.self.inside.order.items c.self.inside.kinds c.self.inside.edges in
    let same : refreshed c.self.inside.kinds (without_filter c.args.filter c.self.inside.edges) ≡ edges
    = ap (λ es. refreshed c.self.inside.kinds (without_filter c.args.filter es)) put.is
    ∙ filter_back c.self.inside.kinds edges put.node c.args.filter put.perm put.shared put.differ put.lone
    (λ e h. (put.fit.each e h).table) (listed_fit g c.self.invariant.sound.small edges put.fit) put.just.acyclic put.just.refreshed in
    let rule : KeepsPermissions (refreshed c.self.inside.kinds (without_filter c.args.filter c.self.inside.edges)) = rw same put.just.rule in
    let good = (rw (← c.self.view_is) at (judged c)).ok.1 (acyclic c, rule) in
    (good, of_ok c.settle.result good (rw (← made c) c.settle.ensures.ok) ∙ same))
  where
    of_ok : (r : Result (Unit {0}) GraphStop) → IsOk r → OnOk r (c.settle.new.edges ≡ refreshed c.self.inside.kinds (without_filter c.args.filter c.self.inside.edges))
        → c.settle.new.edges ≡ refreshed c.self.inside.kinds (without_filter c.args.filter c.self.inside.edges)
    of_ok (Ok u) is h = h
    of_ok (Err e) is h = absurd cc
