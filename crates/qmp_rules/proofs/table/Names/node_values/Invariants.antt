use Rattle.std.proofs.Common.{◌≡◌, drop}
use Rattle.serde_json.specs.View.{items_view}
use Rattle.qmp_rules.specs.Printed.{items_joined}
use Rattle.qmp_rules.specs.Queries.{nodes_items}
use Rattle.qmp_rules.proofs.table.Names.node_values.Given as goal

abbrev pub invariant-loop-row : goal.invariant-loop-row
invariant-loop-row l =
    items_joined (items_view l.values.items) (nodes_items l.self.table l.counts (drop l.row-index l.row-items))
    ≡ nodes_items l.self.table l.counts l.self.table.nodes
