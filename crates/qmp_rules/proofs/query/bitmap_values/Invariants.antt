use Rattle.std.proofs.Common.{◌≡◌, drop}
use Rattle.serde_json.specs.View.{items_view}
use Rattle.qmp_rules.specs.Printed.{items_joined}
use Rattle.qmp_rules.specs.Queries.{bitmap_items}
use Rattle.qmp_rules.proofs.query.bitmap_values.Given as goal

abbrev pub invariant-loop-i : goal.invariant-loop-i
invariant-loop-i l =
    items_joined (items_view l.values.items) (bitmap_items l.node (drop l.i l.rows) (drop l.i l.counts))
    ≡ bitmap_items l.node l.rows l.counts
