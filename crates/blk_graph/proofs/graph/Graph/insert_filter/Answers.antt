use Rattle.std.proofs.Common.{◌≡◌, ◌∙◌, ap, sym, List, Result, Ok, Err}
use Rattle.std.specs.Prelude.{OnOk}
use Rattle.blk_graph.specs.declared.edge.Perms.{Perms}
use Rattle.blk_graph.specs.declared.stop.GraphStop.{GraphStop}
use Rattle.blk_graph.specs.Refreshed.{refreshed}
use Rattle.blk_graph.proofs.AlikeLemmas.{derived_filter}
use Rattle.blk_graph.specs.declared.edge.Edge.{Edge}
use Rattle.blk_graph.specs.Graph.{Graph, ids, IsFit}
use Rattle.blk_graph.specs.Judged.{IsJudged}
use Rattle.blk_graph.specs.Layout.{graph_of}
use Rattle.blk_graph.specs.Paths.{IsAcyclic}
use Rattle.blk_graph.proofs.GraphLemmas.{IsKept-settled, judged_of}
use Rattle.blk_graph.specs.Edits.{with_filter}
use Rattle.blk_graph.proofs.FilterLemmas.{IsAcyclic-with_filter}
use Rattle.blk_graph.proofs.FitLemmas.{IsFit-with_filter, listed_fit}
use Rattle.blk_graph.proofs.graph.Graph.insert_filter.Goals as goal

abbrev edited : (c : goal.After-settle) → List Edge
edited c = with_filter c.args.node c.args.filter c.args.perm c.args.shared c.self.inside.edges

made : (c : goal.After-settle) → c.put_filter.new.self ≡ with_filter c.args.node c.args.filter c.args.perm c.args.shared c.self.inside.edges
made c = c.put_filter.ensures.edges ∙ ap (with_filter c.args.node c.args.filter c.args.perm c.args.shared) c.copy_from.ensures

fit : (c : goal.After-settle) → IsFit (graph_of c.self.inside.names c.self.inside.keys c.self.inside.order.items c.self.inside.kinds c.self.inside.edges) (with_filter c.args.node c.args.filter c.args.perm c.args.shared c.self.inside.edges)
fit c = IsFit-with_filter _ c.args.node c.args.filter c.args.perm c.args.shared c.self.inside.edges
    (record {
      parent = rw (← c.self.view_is) at c.requires.filter;
      child = rw (← c.self.view_is) at c.requires.node;
      table = rw (← c.self.view_is) at c.requires.kind;
    })
    (rw (← c.self.view_is) at c.requires.lone) c.self.invariant.sound.fit

acyclic : (c : goal.After-settle) → IsAcyclic (with_filter c.args.node c.args.filter c.args.perm c.args.shared c.self.inside.edges)
acyclic c = IsAcyclic-with_filter c.self.inside.edges c.args.node c.args.filter c.args.perm c.args.shared
    c.requires.differ (rw (← c.self.view_is) at c.requires.lone) c.self.invariant.sound.just.acyclic

pub invariant_of-self : goal.invariant_of-self
invariant_of-self c =
    IsKept-settled c.self.inside.names c.self.inside.keys c.self.inside.order.items c.self.inside.kinds c.self.inside.edges _ c.self.invariant
    (with_filter c.args.node c.args.filter c.args.perm c.args.shared c.self.inside.edges) c.settle.new.edges c.as_slice.result.now c.settle.result c.as_slice.ensures.value
    (fit c) (acyclic c)
    (rw (← made c) c.settle.ensures.ruled) (rw (← made c) c.settle.ensures.ok) c.settle.ensures.err

judged : (c : goal.After-settle) → IsJudged (ids c.args.self.now) c.args.self.now.kinds (with_filter c.args.node c.args.filter c.args.perm c.args.shared c.args.self.now.edges) c.settle.result
judged c =
    rw (sym c.self.view_is) (judged_of c.self.inside.names c.self.inside.keys c.self.inside.order.items c.self.inside.kinds c.self.inside.edges _ c.self.invariant
    (with_filter c.args.node c.args.filter c.args.perm c.args.shared c.self.inside.edges) c.as_slice.result.now c.settle.result c.as_slice.ensures.value (fit c) (acyclic c)
    (rw (← made c) c.settle.ensures.ruled))

pub returns-clause-judged : goal.returns-clause-judged
returns-clause-judged c = judged c

pub returns-clause-sound : goal.returns-clause-sound
returns-clause-sound c = (invariant_of-self c).sound

pub put_filter-requires : goal.put_filter-requires
put_filter-requires c = rw c.copy_from.ensures (rw (← c.self.view_is) at c.requires.lone)

-- what was set, and what it could have been set to
given : (c : goal.After-settle) (asks shares : Perms) → refreshed c.self.inside.kinds (with_filter c.args.node c.args.filter c.args.perm c.args.shared c.self.inside.edges)
    ≡ refreshed c.self.inside.kinds (with_filter c.args.node c.args.filter asks shares c.self.inside.edges)
given c asks shares =
    let g : Graph = graph_of c.self.inside.names c.self.inside.keys c.self.inside.order.items c.self.inside.kinds c.self.inside.edges in
    let fits : IsFit g (with_filter c.args.node c.args.filter asks shares c.self.inside.edges)
    = IsFit-with_filter g c.args.node c.args.filter asks shares c.self.inside.edges
    (record {
      parent = rw (← c.self.view_is) at c.requires.filter;
      child = rw (← c.self.view_is) at c.requires.node;
      table = rw (← c.self.view_is) at c.requires.kind;
    })
    (rw (← c.self.view_is) at c.requires.lone) c.self.invariant.sound.fit in
    derived_filter c.self.inside.kinds c.self.inside.edges c.args.node c.args.filter c.args.perm c.args.shared asks shares
    (λ e h. (fits.each e h).table) (listed_fit g c.self.invariant.sound.small _ fits)
    (IsAcyclic-with_filter c.self.inside.edges c.args.node c.args.filter asks shares
    c.requires.differ (rw (← c.self.view_is) at c.requires.lone) c.self.invariant.sound.just.acyclic)

pub returns-clause-derived : goal.returns-clause-derived
returns-clause-derived c =
    rw (sym c.self.view_is) (λ asks shares. on_ok c.settle.result (rw (← made c) c.settle.ensures.ok) (given c asks shares))
  where
    on_ok : (r : Result (Unit {0}) GraphStop) {made derived : List Edge} → OnOk r (c.settle.new.edges ≡ made) → made ≡ derived
        → OnOk r (graph_of c.self.inside.names c.self.inside.keys c.self.inside.order.items c.self.inside.kinds c.settle.new.edges
        ≡ graph_of c.self.inside.names c.self.inside.keys c.self.inside.order.items c.self.inside.kinds derived)
    on_ok (Ok u) h same = ap (graph_of c.self.inside.names c.self.inside.keys c.self.inside.order.items c.self.inside.kinds) (h ∙ same)
    on_ok (Err e) h same = tt
