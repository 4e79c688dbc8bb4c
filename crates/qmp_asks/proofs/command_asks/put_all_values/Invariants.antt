use Rattle.std.proofs.Common.{◌≡◌, ◌++◌, drop, map}
use Rattle.qmp_codec.specs.Commands.{seen_action}
use Rattle.qmp_asks.specs.CommandAsks.{all_values}
use Rattle.qmp_asks.specs.Seen.{seen_asks}
use Rattle.qmp_asks.proofs.command_asks.put_all_values.Given as goal

abbrev pub invariant-loop-action : goal.invariant-loop-action
invariant-loop-action l =
    seen_asks l.asks.items ++ all_values (map seen_action (drop l.action-index l.actions))
    ≡ seen_asks l.initial.asks.items ++ all_values (map seen_action l.actions)
