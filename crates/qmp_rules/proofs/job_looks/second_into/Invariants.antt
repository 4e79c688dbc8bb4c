use Rattle.std.proofs.Common.{◌≡◌, drop}
use Rattle.qmp_rules.specs.Asks.{second_into}
use Rattle.qmp_rules.proofs.job_looks.second_into.Given as goal

abbrev pub invariant-loop-i : goal.invariant-loop-i
invariant-loop-i l = second_into l.id (drop l.i l.edges) ≡ second_into l.id l.edges
