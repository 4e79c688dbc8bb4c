use Rattle.std.proofs.Common.{◌≡◌, ◌<◌, false, length, ◌+◌, arith, sym, ◌∙◌}
use Rattle.blk_graph.specs.Walk.{leads_on, mark_count}
use Rattle.blk_graph.proofs.WalkLemmas.{Marked-leads_on, below_next}
use Rattle.blk_graph.proofs.walk.spread.Goals as goal
use Rattle.blk_graph.proofs.walk.spread.Goals.{then-leads_on, else-leads_on}

pub loop-edge-preserved : goal.loop-edge-preserved
loop-edge-preserved c = elim c.if-leads_on.branch [
  | then-leads_on w ↦
      let low : w.index.result < length c.loop-edge.marks = omega arith in
      let m = Marked-leads_on c.args.edges.now c.args.from c.loop-edge.marks c.loop-edge.edge-index c.edge-item.result w.index.result
      c.loop-edge.invariant.reached c.loop-edge-test.true c.edge-item.is
      (sym c.leads_on.ensures ∙ w.if-leads_on.true) w.index.ensures.value low in
      let more : mark_count c.if-leads_on.marks ≡ mark_count c.loop-edge.marks + 1 = rw w.marks-is m.grown in
      record {
        reached = rw w.marks-is m.reached;
        fewer = omega (arith, more, c.loop-edge.invariant.fewer);
        grown = λ _. omega (arith, more, c.loop-edge.invariant.fewer);
        none = λ e. absurd cc;
      }
  | else-leads_on w ↦ record {
    reached = rw w.marks-is c.loop-edge.invariant.reached;
    fewer = rw w.marks-is c.loop-edge.invariant.fewer;
    grown = rw (w.marks-is, w.grew-is) c.loop-edge.invariant.grown;
    none = λ e.
        let was : c.loop-edge.grew ≡ false = sym w.grew-is ∙ e in
        rw w.marks-is (below_next (leads_on c.args.from c.loop-edge.marks) c.args.edges.now c.loop-edge.edge-index
        c.edge-item.result c.loop-edge-test.true c.edge-item.is
        (sym c.leads_on.ensures ∙ w.if-leads_on.false) (c.loop-edge.invariant.none was));
  }
]
