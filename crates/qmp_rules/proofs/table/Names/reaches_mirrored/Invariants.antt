use Rattle.std.proofs.Common.{◌≡◌, drop}
use Rattle.qmp_rules.specs.Asks.{first_reached, mirrored}
use Rattle.qmp_rules.proofs.table.Names.reaches_mirrored.Given as goal

abbrev pub invariant-loop-job : goal.invariant-loop-job
invariant-loop-job l =
    first_reached l.self.table l.target (mirrored (drop l.job-index l.job-items))
    ≡ first_reached l.self.table l.target (mirrored l.self.table.jobs)
