use Rattle.std.proofs.Common.{◌≡◌, ◌+◌, ◌++◌, ◌∷◌, [], List, arith, subst, sym, ap, ◌∙◌, take}
use Rattle.std.specs.Prelude.{map}
use Rattle.std.proofs.lemmas.List.{map-append}
use Rattle.trace_codec.specs.declared.wish.Wish.{Wish}
use Rattle.qblk_inputs.specs.Room.{IsRoomFor}
use Rattle.qblk_inputs.proofs.Rooms.{take_next, room_next, room_none}
use Rattle.qblk_inputs.proofs.room.room_for.Goals as goal

pub loop-wishes-preserved : goal.loop-wishes-preserved
loop-wishes-preserved c =
    let i = c.loop-wishes.wishes-index in
    let t = c.wishes-item.result in
    let done = map (λ t. t.items) (take i c.args.traces.now) in
    let more : map (λ t. t.items) (take (i + 1) c.args.traces.now) ≡ done ++ t.items ∷ [] =
    ap (λ ts. map (λ t. t.items) ts) (take_next c.args.traces.now i t (omega arith) c.wishes-item.is)
    ∙ map-append (λ t. t.items) (take i c.args.traces.now) (t ∷ []) in
    let P : List (List Wish) → Type 0 = λ ts. IsRoomFor c.args.lines ts c.in_ok-room.room in
    subst P (sym more)
    (room_next c.args.lines c.loop-wishes.room c.in_ok-room.room done t.items c.loop-wishes.invariant (rw c.as_slice.ensures.value at c.in_ok-room.ensures.entries)
    (rw c.as_slice.ensures.value at c.in_ok-room.ensures.bytes) (rw c.as_slice.ensures.value at c.in_ok-room.ensures.numbers))

pub returns-in_err-room-clause-none : goal.returns-in_err-room-clause-none
returns-in_err-room-clause-none c =
    rw c.from_residual.ensures (λ can.
    room_none (λ t. t.items) c.args.lines c.loop-wishes.room c.args.traces.now c.loop-wishes.wishes-index c.wishes-item.result (omega arith) c.wishes-item.is
    c.loop-wishes.invariant (rw c.as_slice.ensures.value at c.in_err-room.ensures.none) can)
