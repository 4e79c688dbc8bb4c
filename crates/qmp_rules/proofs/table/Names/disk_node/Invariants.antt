use Rattle.std.proofs.Common.{◌≡◌, ◌-◌}
use Rattle.qmp_rules.specs.Chains.{disk_from, disk_node}
use Rattle.qmp_rules.proofs.table.Names.disk_node.Given as goal

abbrev pub invariant-loop : goal.invariant-loop
invariant-loop l = disk_from (64 - l.counter) l.self.table l.node ≡ disk_node l.self.table l.fn.id
