use Rattle.std.proofs.Common.{◌≡◌, drop}
use Rattle.blk_graph.specs.Rule.{first_answer, conflict_at}
use Rattle.blk_graph.proofs.rule.conflict_among.Given as goal

abbrev pub invariant-loop-node : goal.invariant-loop-node
invariant-loop-node l = first_answer (conflict_at l.edges) (drop l.node-index l.nodes)
    ≡ first_answer (conflict_at l.edges) l.nodes
