use Rattle.std.proofs.Common.{◌≡◌, map, take}
use Rattle.flat_machine.specs.Bitmaps.{dirty_in}
use Rattle.flat_machine.specs.Marking.{dirty_bytes}
use Rattle.world_changes.proofs.counting.counts.Given as goal

abbrev pub invariant-loop-row : goal.invariant-loop-row
invariant-loop-row l = l.counts.items ≡ map dirty_bytes (map dirty_in (take l.row-index l.rows))
