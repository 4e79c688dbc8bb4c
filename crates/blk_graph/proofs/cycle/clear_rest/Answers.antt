use Rattle.std.proofs.Common.{sym, ◌∙◌, arith}
use Rattle.blk_graph.proofs.ClearLemmas.{Clearing-none, Clearing-set, Clearing-kept, Clearing-more}
use Rattle.blk_graph.proofs.cycle.clear_rest.Goals as goal
use Rattle.blk_graph.proofs.cycle.clear_rest.Goals.{then-is_shut, else-is_shut}

pub loop-node-init : goal.loop-node-init
loop-node-init c = Clearing-none c.args.waiting.now c.args.clear.now c.requires.clear

pub loop-node-preserved : goal.loop-node-preserved
loop-node-preserved c = elim c.if-is_shut.branch [
  | then-is_shut w ↦ rw (w.clear-is, w.grew-is)
      (Clearing-set c.args.waiting.now c.args.clear.now c.loop-node.clear c.loop-node.node c.loop-node.grew c.loop-node.invariant
      c.loop-node-test.true (sym c.is_shut.ensures ∙ w.if-is_shut.true))
  | else-is_shut w ↦ rw (w.clear-is, w.grew-is)
      (Clearing-kept c.args.waiting.now c.args.clear.now c.loop-node.clear c.loop-node.node c.loop-node.grew c.loop-node.invariant
      (sym c.is_shut.ensures ∙ w.if-is_shut.false))
]

pub returns-clause-cleared : goal.returns-clause-cleared
returns-clause-cleared c = λ node small. c.loop-node.invariant.done node (omega (arith, small, c.loop-node-test.false))

pub returns-clause-more : goal.returns-clause-more
returns-clause-more c =
    Clearing-more c.args.waiting.now c.args.clear.now c.loop-node.clear c.loop-node.node c.loop-node.grew c.loop-node.invariant
