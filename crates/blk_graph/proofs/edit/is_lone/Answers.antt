use Rattle.std.proofs.Common.{sym, ◌∙◌}
use Rattle.blk_graph.proofs.InverseLemmas.{touched_not_lone}
use Rattle.blk_graph.proofs.edit.is_lone.Goals as goal

pub returns-then-touches : goal.returns-then-touches
returns-then-touches c = (
  λ h. absurd cc,
  λ lone. absurd (touched_not_lone c.args.edges.now c.args.node c.edge-item.result
      (c.loop-edge.edge-index, c.loop-edge-test.true, sym c.edge-item.is) (sym c.touches.ensures ∙ c.if-touches.true) lone),
)
