use Rattle.blk_history.specs.Fold.{With}
use Rattle.std.proofs.Common.{◌≡◌, length, refl, sym, ap, subst, arith, Some}
use Rattle.std.proofs.lemmas.Option.{slice_get_within}
use Rattle.world_parts.specs.Progress.{Progress, CanShow, flight_at}
use Rattle.world_parts.specs.declared.row.InFlight.{InFlight}
use Rattle.world_parts.proofs.InStep.{flying-row, room-owed, bytes-owed, done-is, puts-piece, in-step-put, guests-then, flying-is, next-is, same-flight}
use Rattle.world_parts.proofs.progress.Progress.note_piece.Goals as goal

pub note_piece-requires-clause-room : goal.note_piece-requires-clause-room
note_piece-requires-clause-room c =
    let there = rw c.as_slice.ensures.value at c.row_at-row.ensures in
    let flies = flying-row c.self.inside.history.events c.self.inside.rows.items c.args.guest c.row_at-row.result (CanShow (length c.args.shown.now)) c.self.invariant.placed there (subst (λ (p : Progress). With (flight_at p.guests c.args.guest) (CanShow (length c.args.shown.now))) (sym c.self.view_is) c.requires) in
    room-owed _ _ _ _ _ _ c.self.invariant c.args.guest c.row_at-row.result there _ flies.sees

pub note_piece-requires-clause-byte_room : goal.note_piece-requires-clause-byte_room
note_piece-requires-clause-byte_room c =
    let there = rw c.as_slice.ensures.value at c.row_at-row.ensures in
    let flies = flying-row c.self.inside.history.events c.self.inside.rows.items c.args.guest c.row_at-row.result (CanShow (length c.args.shown.now)) c.self.invariant.placed there (subst (λ (p : Progress). With (flight_at p.guests c.args.guest) (CanShow (length c.args.shown.now))) (sym c.self.view_is) c.requires) in
    bytes-owed _ _ _ _ _ _ c.self.invariant c.args.guest c.row_at-row.result there _ _ flies.sees flies.holds

pub overflow_add-flight : goal.overflow_add-flight
overflow_add-flight c =
    let there = rw c.as_slice.ensures.value at c.row_at-row.ensures in
    let flies = flying-row c.self.inside.history.events c.self.inside.rows.items c.args.guest c.row_at-row.result (CanShow (length c.args.shown.now)) c.self.invariant.placed there (subst (λ (p : Progress). With (flight_at p.guests c.args.guest) (CanShow (length c.args.shown.now))) (sym c.self.view_is) c.requires) in
    let same : flies.f ≡ c.in-Some.flight = same-flight flies.flying c.in-Some.is in
    let next = flies.holds.next in
    let pieces = flies.placed.pieces in
    let moved : flies.f.next ≡ c.in-Some.flight.next = ap (λ (f : InFlight). f.next) same in
    omega arith

pub put_row-requires : goal.put_row-requires
put_row-requires c =
    let within = slice_get_within c.as_slice.result.now c.args.guest c.row_at-row.result c.row_at-row.ensures in
    let len = c.as_slice.ensures.len in
    omega arith

pub invariant_of-self : goal.invariant_of-self
invariant_of-self c =
    let there = rw c.as_slice.ensures.value at c.row_at-row.ensures in
    let flies = flying-is c.self.inside.history.events c.self.inside.rows.items c.args.guest c.row_at-row.result (CanShow (length c.args.shown.now)) c.self.invariant.placed there (subst (λ (p : Progress). With (flight_at p.guests c.args.guest) (CanShow (length c.args.shown.now))) (sym c.self.view_is) c.requires) c.in-Some.flight c.in-Some.is in
    let some = room-owed _ _ _ _ _ _ c.self.invariant c.args.guest c.row_at-row.result there _ flies.sees in
    let bytes = bytes-owed _ _ _ _ _ _ c.self.invariant c.args.guest c.row_at-row.result there _ _ flies.sees flies.holds in
    rw (c.put_row.ensures, c.is_good.ensures) (in-step-put _ _ _ _ _ _ _ _ _ _
    (puts-piece c.self.inside.history c.note_piece.new.history c.self.inside.spare c.self.inside.rows.items c.args.guest c.row_at-row.result c.in-Some.flight c.args.outcome c.args.shown.now _
    c.note_piece.ensures refl refl some bytes there c.in-Some.is flies.placed flies.holds)
    _ _ _ c.self.invariant)

pub returns : goal.returns
returns c = λ f is.
    let there = rw c.as_slice.ensures.value at c.row_at-row.ensures in
    let flies = flying-is c.self.inside.history.events c.self.inside.rows.items c.args.guest c.row_at-row.result (CanShow (length c.args.shown.now)) c.self.invariant.placed there (subst (λ (p : Progress). With (flight_at p.guests c.args.guest) (CanShow (length c.args.shown.now))) (sym c.self.view_is) c.requires) c.in-Some.flight c.in-Some.is in
    let some = room-owed _ _ _ _ _ _ c.self.invariant c.args.guest c.row_at-row.result there _ flies.sees in
    let bytes = bytes-owed _ _ _ _ _ _ c.self.invariant c.args.guest c.row_at-row.result there _ _ flies.sees flies.holds in
    let now = guests-then _ _ _ _ _ _ _ _ _ _
    (puts-piece c.self.inside.history c.note_piece.new.history c.self.inside.spare c.self.inside.rows.items c.args.guest c.row_at-row.result c.in-Some.flight c.args.outcome c.args.shown.now _
    c.note_piece.ensures refl refl some bytes there c.in-Some.is flies.placed flies.holds)
    c.self.invariant.placed in
    let number = done-is c.self.inside.history.events c.self.inside.rows.items c.args.guest c.row_at-row.result there in
    let next = next-is c.self.inside.history.events c.self.inside.rows.items c.args.guest c.row_at-row.result there _ flies.sees f (subst (λ (p : Progress). flight_at p.guests c.args.guest ≡ Some f) (sym c.self.view_is) is) in
    rw (c.put_row.ensures, c.is_good.ensures, now, c.note_piece.ensures, number, next, ← c.self.view_is) refl
