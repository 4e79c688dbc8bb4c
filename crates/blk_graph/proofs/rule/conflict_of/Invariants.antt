use Rattle.std.proofs.Common.{◌≡◌, drop}
use Rattle.blk_graph.specs.Rule.{first_answer_from, conflict_between}
use Rattle.blk_graph.proofs.rule.conflict_of.Given as goal

abbrev pub invariant-loop-j : goal.invariant-loop-j
invariant-loop-j l = first_answer_from (conflict_between l.node l.i l.asking) l.j (drop l.j l.edges)
    ≡ first_answer_from (conflict_between l.node l.i l.asking) 0 l.edges
