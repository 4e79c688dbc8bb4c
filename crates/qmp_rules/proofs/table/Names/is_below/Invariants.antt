use Rattle.std.proofs.Common.{◌≡◌, ◌-◌, drop}
use Rattle.qmp_rules.specs.Chains.{chain_from, chain_below, is_listed}
use Rattle.qmp_rules.proofs.table.Names.is_below.Given as goal

abbrev pub invariant-loop : goal.invariant-loop
invariant-loop l = is_listed l.node (drop 1 (chain_from (64 - l.counter) l.self.table l.top)) ≡ is_listed l.node (chain_below l.self.table l.fn.id)
