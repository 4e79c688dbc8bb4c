use Rattle.std.proofs.Common.{◌≡◌, ◌-◌, ◌++◌, drop}
use Rattle.qmp_rules.specs.Chains.{chain_from, chain_below}
use Rattle.qmp_rules.proofs.table.Names.put_below.Given as goal

abbrev pub invariant-loop : goal.invariant-loop
invariant-loop l =
    l.ids.items ++ drop 1 (chain_from (64 - l.counter) l.self.table l.node)
    ≡ l.initial.ids.items ++ chain_below l.self.table l.fn.id
