use Rattle.blk_graph.proofs.ShareLemmas.{SharedBelow}
use Rattle.blk_graph.proofs.rule.share.Given as goal

abbrev pub invariant-loop-edge : goal.invariant-loop-edge
invariant-loop-edge l = SharedBelow l.edges l.common l.edge-index
