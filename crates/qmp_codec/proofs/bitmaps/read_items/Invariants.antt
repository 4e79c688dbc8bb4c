use Rattle.std.proofs.Common.{◌≡◌, ◌++◌, drop, map}
use Rattle.serde_json.specs.View.{items_view}
use Rattle.qmp_codec.specs.Bitmaps.{seen_source, sources_of}
use Rattle.qmp_codec.proofs.bitmaps.read_items.Given as goal

abbrev pub invariant-loop-item : goal.invariant-loop-item
invariant-loop-item l =
    map seen_source l.sources.items ++ sources_of (items_view (drop l.item-index l.item-items)) ≡ sources_of (items_view l.items.items)
