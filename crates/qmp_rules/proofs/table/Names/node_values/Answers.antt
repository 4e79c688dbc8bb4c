use Rattle.std.proofs.Common.{◌≤◌, length, drop, arith}
use Rattle.std.proofs.lemmas.List.{at_drop_all}
use Rattle.serde_json.specs.View.{items_view}
use Rattle.qmp_rules.specs.Queries.{nodes_items}
use Rattle.qmp_rules.proofs.ItemLemmas.{joined_end}
use Rattle.qmp_rules.proofs.table.Names.node_values.Goals as goal

pub returns : goal.returns
returns c =
    let items = c.nodes-row-items.result.now in
    let past : length items ≤ c.loop-row.row-index = omega arith in
    joined_end (items_view c.loop-row.values.items) (nodes_items c.args.self.now.table c.args.counts.now (drop c.loop-row.row-index items))
    (nodes_items c.args.self.now.table c.args.counts.now c.args.self.now.table.nodes)
    (at_drop_all (nodes_items c.args.self.now.table c.args.counts.now) items c.loop-row.row-index past) c.loop-row.invariant
