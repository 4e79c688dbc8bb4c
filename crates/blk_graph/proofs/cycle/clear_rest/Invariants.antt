use Rattle.blk_graph.proofs.ClearLemmas.{Clearing}
use Rattle.blk_graph.proofs.cycle.clear_rest.Given as goal

abbrev pub invariant-loop-node : goal.invariant-loop-node
invariant-loop-node l = Clearing l.waiting l.initial.clear l.clear l.node l.grew
