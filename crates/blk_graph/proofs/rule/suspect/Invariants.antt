use Rattle.blk_graph.proofs.ShareLemmas.{CalmBelow}
use Rattle.blk_graph.proofs.rule.suspect.Given as goal

abbrev pub invariant-loop-edge : goal.invariant-loop-edge
invariant-loop-edge l = CalmBelow l.edges l.common l.suspects l.edge-index
