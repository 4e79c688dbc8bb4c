use Rattle.std.proofs.Common.{◌≡◌, ◌+◌, ◌-◌}
use Rattle.qmp_rules.specs.Edits.{unused_from}
use Rattle.qmp_rules.proofs.edits.unused_number.Given as goal

abbrev pub invariant-loop-k : goal.invariant-loop-k
invariant-loop-k l = unused_from (64 - l.k) (l.first + l.k) l.devices ≡ unused_from 64 l.first l.devices
