use Rattle.std.proofs.Common.{take}
use Rattle.std.specs.Prelude.{map}
use Rattle.qblk_inputs.specs.Room.{IsRoomFor}
use Rattle.qblk_inputs.proofs.room.room_for.Given as goal

abbrev pub invariant-loop-wishes : goal.invariant-loop-wishes
invariant-loop-wishes l = IsRoomFor l.lines (map (λ t. t.items) (take l.wishes-index l.traces)) l.room
