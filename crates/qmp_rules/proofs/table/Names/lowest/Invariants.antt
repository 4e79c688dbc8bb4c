use Rattle.std.proofs.Common.{◌≡◌, ◌-◌, drop}
use Rattle.qmp_rules.specs.Chains.{chain_from, lowest_in_chain, lowest_of_ids}
use Rattle.qmp_rules.proofs.table.Names.lowest.Given as goal

abbrev pub invariant-loop : goal.invariant-loop
invariant-loop l =
    lowest_of_ids l.node (drop 1 (chain_from (64 - l.counter) l.self.table l.node)) ≡ lowest_in_chain l.self.table l.fn.id
