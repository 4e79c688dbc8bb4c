use Rattle.std.proofs.Common.{◌≡◌}
use Rattle.qmp_rules.specs.Chains.{leads}
use Rattle.qmp_rules.specs.Reach.{IsMarked}
use Rattle.qmp_rules.proofs.reach.leads.Given as goal

abbrev pub invariant-loop : goal.invariant-loop
invariant-loop l = IsMarked (λ id. leads l.counter l.edges id l.to) l.marks
