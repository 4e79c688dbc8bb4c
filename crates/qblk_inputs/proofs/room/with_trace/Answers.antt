use Rattle.std.proofs.Common.{arith}
use Rattle.qblk_inputs.proofs.Rooms.{so_far_next, trace_none}
use Rattle.qblk_inputs.proofs.room.with_trace.Goals as goal

pub loop-wish-preserved : goal.loop-wish-preserved
loop-wish-preserved c =
    so_far_next c.args.room c.loop-wish.room c.in_ok-room.room c.args.wishes.now c.loop-wish.wish-index c.wish-item.result (omega arith) c.wish-item.is
    c.loop-wish.invariant c.in_ok-room.ensures.entries c.in_ok-room.ensures.bytes c.in_ok-room.ensures.pieces

pub returns-in_err-room-clause-none : goal.returns-in_err-room-clause-none
returns-in_err-room-clause-none c =
    rw c.from_residual-in_err-room.ensures (λ holds count.
    trace_none c.args.room c.loop-wish.room c.args.wishes.now c.loop-wish.wish-index c.wish-item.result (omega arith) c.wish-item.is
    c.loop-wish.invariant c.in_err-room.ensures.none holds count)
