use Rattle.std.proofs.Common.{◌≤◌, length, min, drop, arith}
use Rattle.serde_json.specs.View.{items_view}
use Rattle.qmp_rules.specs.Queries.{bitmap_items}
use Rattle.qmp_rules.proofs.ItemLemmas.{bitmaps_all, joined_end}
use Rattle.qmp_rules.proofs.query.bitmap_values.Goals as goal

pub returns : goal.returns
returns c =
    let rows = c.args.rows.now in
    let counts = c.args.counts.now in
    let past : min (length rows) (length counts) ≤ c.loop-i.i = omega (arith, c.min-i-end.ensures) in
    joined_end (items_view c.loop-i.values.items)
    (bitmap_items c.args.node (drop c.loop-i.i rows) (drop c.loop-i.i counts)) (bitmap_items c.args.node rows counts)
    (bitmaps_all c.args.node rows counts c.loop-i.i past) c.loop-i.invariant
