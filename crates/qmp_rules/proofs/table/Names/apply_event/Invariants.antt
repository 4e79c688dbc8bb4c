use Rattle.std.proofs.Common.{◌≡◌, length, true}
use Rattle.std.specs.List.{list_all}
use Rattle.qmp_rules.specs.Changes.{all_changed}
use Rattle.qmp_rules.specs.Ends.{is_of_event}
use Rattle.qmp_rules.proofs.table.Names.apply_event.Given as goal

abbrev pub invariant-loop-change : goal.invariant-loop-change
invariant-loop-change l = record {
  events : list_all is_of_event l.edits ≡ true;
  rest : all_changed l.self.table l.edits ≡ all_changed l.fn.self.table l.fn.edits;
}

abbrev pub decreases-loop-change : goal.decreases-loop-change
decreases-loop-change l = length l.edits
