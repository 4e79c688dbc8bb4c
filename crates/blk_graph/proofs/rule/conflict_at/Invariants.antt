use Rattle.std.proofs.Common.{◌≡◌, drop}
use Rattle.blk_graph.specs.Rule.{first_answer_from, conflict_of}
use Rattle.blk_graph.proofs.rule.conflict_at.Given as goal

abbrev pub invariant-loop-i : goal.invariant-loop-i
invariant-loop-i l = first_answer_from (conflict_of l.edges l.node) l.i (drop l.i l.edges)
    ≡ first_answer_from (conflict_of l.edges l.node) 0 l.edges
