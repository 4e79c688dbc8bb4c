use Rattle.std.proofs.Common.{refl, sym, ◌∙◌, arith}
use Rattle.blk_graph.proofs.ClearLemmas.{AreClear-none, HasCycle-from_edge, none_unclear}
use Rattle.blk_graph.proofs.WalkLemmas.{unmarked_at_first}
use Rattle.blk_graph.proofs.cycle.has_cycle.Goals as goal

pub loop-init : goal.loop-init
loop-init c = record { clear = AreClear-none c.args.edges.now _ (unmarked_at_first 64); room = refl }

pub returns-then-is_unclear : goal.returns-then-is_unclear
returns-then-is_unclear c = (
  λ _. HasCycle-from_edge c.args.edges.now c.clear_more.new.clear c.requires c.loop-test.ensures.more c.edge-item.result
      (c.loop-edge.edge-index, c.loop-edge-test.true, sym c.edge-item.is) (sym c.is_unclear.ensures ∙ c.if-is_unclear.true),
  λ has. refl,
)

pub returns : goal.returns
returns c = (
  λ e. absurd cc,
  λ has. absurd (none_unclear c.args.edges.now c.clear_more.new.clear c.loop-test.ensures.clear
      (λ e there. rw there.2 at (c.loop-edge.invariant there.0 e (omega (arith, there.1, c.loop-edge-test.false)))) has),
)
