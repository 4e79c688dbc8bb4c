use Rattle.std.proofs.Common.{◌≡◌, drop}
use Rattle.qmp_rules.specs.Asks.{first_unmet_ask}
use Rattle.qmp_asks.specs.Seen.{seen_asks}
use Rattle.qmp_rules.proofs.table.Names.first_unmet.Given as goal

abbrev pub invariant-loop-ask : goal.invariant-loop-ask
invariant-loop-ask l =
    first_unmet_ask l.self.table l.told (seen_asks (drop l.ask-index l.asks)) ≡ first_unmet_ask l.self.table l.told (seen_asks l.asks)
