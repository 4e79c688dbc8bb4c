use Rattle.std.proofs.Common.{◌≡◌, length}
use Rattle.qmp_rules.specs.Changes.{all_changed}
use Rattle.qmp_rules.specs.Fitting.{all_fit}
use Rattle.qmp_rules.specs.Room.{HasRoomForChanges}
use Rattle.qmp_rules.proofs.table.Names.apply_fitting.Given as goal

abbrev pub invariant-loop-change : goal.invariant-loop-change
invariant-loop-change l = record {
  room : HasRoomForChanges (length l.edits) l.self;
  fit : all_fit l.self.table l.edits ≡ all_fit l.fn.self.table l.fn.edits;
  rest : all_changed l.self.table l.edits ≡ all_changed l.fn.self.table l.fn.edits;
}

abbrev pub decreases-loop-change : goal.decreases-loop-change
decreases-loop-change l = length l.edits
