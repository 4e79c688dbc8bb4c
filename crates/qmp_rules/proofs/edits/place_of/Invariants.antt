use Rattle.std.proofs.Common.{◌≡◌, drop}
use Rattle.qmp_rules.specs.Edits.{place_from}
use Rattle.qmp_rules.proofs.edits.place_of.Given as goal

abbrev pub invariant-loop-i : goal.invariant-loop-i
invariant-loop-i l = place_from l.i l.name (drop l.i l.names) ≡ place_from 0 l.name l.names
