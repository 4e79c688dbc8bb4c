use Rattle.std.proofs.Common.{◌≡◌, ◌-◌}
use Rattle.flat_machine.specs.Bitmaps.{noted_rows}
use Rattle.flat_machine.specs.Machine.{path, path_from}
use Rattle.world_pieces.proofs.recording.note_path.Given as goal

abbrev pub invariant-loop : goal.invariant-loop
invariant-loop l = noted_rows l.part l.bitmaps (path_from (64 - l.counter) l.names.table l.node) ≡ noted_rows l.part l.initial.bitmaps (path l.names.table l.fn.drive)
