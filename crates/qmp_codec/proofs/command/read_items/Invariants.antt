use Rattle.std.proofs.Common.{◌≡◌, ◌++◌, drop, map}
use Rattle.serde_json.specs.View.{items_view}
use Rattle.qmp_codec.specs.Commands.{seen_action, actions_of}
use Rattle.qmp_codec.proofs.command.read_items.Given as goal

abbrev pub invariant-loop-item : goal.invariant-loop-item
invariant-loop-item l =
    map seen_action l.actions.items ++ actions_of (items_view (drop l.item-index l.item-items)) ≡ actions_of (items_view l.items.items)
