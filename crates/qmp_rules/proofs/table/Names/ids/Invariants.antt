use Rattle.std.proofs.Common.{◌≡◌, ◌++◌, drop, map}
use Rattle.qmp_rules.specs.Edits.{node_ids}
use Rattle.qmp_rules.proofs.table.Names.ids.Given as goal

abbrev pub invariant-loop-row : goal.invariant-loop-row
invariant-loop-row l = l.v.items ++ map (λ row. row.id) (drop l.row-index l.row-items) ≡ node_ids l.self.table
