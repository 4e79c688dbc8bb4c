use Rattle.std.proofs.Common.{◌≡◌, drop}
use Rattle.serde_json.specs.View.{items_view}
use Rattle.qmp_codec.specs.Walk.{are_texts}
use Rattle.qmp_codec.proofs.walk.all_texts.Given as goal

abbrev pub invariant-loop-item : goal.invariant-loop-item
invariant-loop-item l = are_texts (items_view (drop l.item-index l.item-items)) ≡ are_texts (items_view l.items.items)
