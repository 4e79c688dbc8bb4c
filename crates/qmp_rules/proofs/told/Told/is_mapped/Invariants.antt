use Rattle.std.proofs.Common.{◌≡◌, drop}
use Rattle.qmp_rules.specs.Table.{has_name}
use Rattle.qmp_rules.proofs.told.Told.is_mapped.Given as goal

abbrev pub invariant-loop-place : goal.invariant-loop-place
invariant-loop-place l = has_name l.node (drop l.place l.self.mapped) ≡ has_name l.node l.self.mapped
