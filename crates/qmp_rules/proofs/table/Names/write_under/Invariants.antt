use Rattle.std.proofs.Common.{◌≡◌}
use Rattle.qmp_rules.proofs.WriteLemmas.{AreWrittenTo}
use Rattle.qmp_rules.proofs.table.Names.write_under.Given as goal

-- the rows before this place are written
abbrev pub invariant-loop-at : goal.invariant-loop-at
invariant-loop-at l = record {
  rows : AreWrittenTo l.initial.self.table l.node l.at l.self.table.nodes;
  table : l.self.table ≡ record l.initial.self.table { nodes = l.self.table.nodes };
  spare : l.self.spare ≡ l.initial.self.spare;
}
