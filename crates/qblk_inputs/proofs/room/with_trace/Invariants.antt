use Rattle.std.proofs.Common.{take}
use Rattle.qblk_inputs.proofs.Rooms.{SoFar}
use Rattle.qblk_inputs.proofs.room.with_trace.Given as goal

abbrev pub invariant-loop-wish : goal.invariant-loop-wish
invariant-loop-wish l = SoFar l.fn.room (take l.wish-index l.wishes) l.room
