use Rattle.std.proofs.Common.{◌≡◌, ◌++◌, take, drop, Some}
use Rattle.qmp_rules.specs.Chains.{down_to}
use Rattle.qmp_rules.proofs.job_looks.cut_below.Given as goal

abbrev pub invariant-loop-i : goal.invariant-loop-i
invariant-loop-i l = record {
  same : l.ids.items ≡ l.fn.ids.items;
  cut : take l.i l.ids.items ++ down_to (Some l.base) (drop l.i l.ids.items) ≡ down_to (Some l.base) l.ids.items;
}
