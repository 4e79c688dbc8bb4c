use Rattle.std.proofs.Common.{◌≡◌, drop}
use Rattle.qmp_rules.specs.Asks.{first_clash}
use Rattle.qmp_rules.proofs.table.Names.first_clash.Given as goal

abbrev pub invariant-loop-id : goal.invariant-loop-id
invariant-loop-id l =
    first_clash l.self.table l.held l.read (drop l.id-index l.ids) ≡ first_clash l.self.table l.held l.read l.ids
