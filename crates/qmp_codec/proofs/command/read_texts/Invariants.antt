use Rattle.std.proofs.Common.{◌≡◌, ◌++◌, drop, map, string_bytes}
use Rattle.serde_json.specs.View.{items_view}
use Rattle.qmp_codec.specs.Commands.{texts_of}
use Rattle.qmp_codec.proofs.command.read_texts.Given as goal

abbrev pub invariant-loop-item : goal.invariant-loop-item
invariant-loop-item l =
    map string_bytes l.texts.items ++ texts_of (items_view (drop l.item-index l.item-items)) ≡ texts_of (items_view l.items.items)
