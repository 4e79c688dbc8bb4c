use Rattle.std.proofs.Common.{◌≡◌, drop, length}
use Rattle.qmp_rules.specs.Table.{kinds_from, kinds_of}
use Rattle.qmp_rules.proofs.edit.kinds_of.Given as goal

abbrev pub invariant-loop-row : goal.invariant-loop-row
invariant-loop-row l = record {
  so_far : kinds_from l.kinds (drop l.row-index l.rows) ≡ kinds_of l.rows;
  count : length l.kinds ≡ 64;
}
