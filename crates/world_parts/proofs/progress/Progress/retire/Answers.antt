use Rattle.blk_history.specs.Fold.{With}
use Rattle.world_parts.specs.Progress.{Progress, flight_at}
use Rattle.std.proofs.Common.{refl, sym, subst, arith}
use Rattle.blk_history.specs.Legal.{IsFlightOver}
use Rattle.std.proofs.lemmas.Option.{slice_get_within}
use Rattle.world_parts.proofs.InStep.{flying-row, room-owed, done-is, puts-retirement, in-step-put, guests-then}
use Rattle.world_parts.proofs.progress.Progress.retire.Goals as goal

pub note_retirement-requires : goal.note_retirement-requires
note_retirement-requires c =
    let there = rw c.as_slice.ensures.value at c.row_at-row.ensures in
    let flies = flying-row c.self.inside.history.events c.self.inside.rows.items c.args.guest c.row_at-row.result IsFlightOver c.self.invariant.placed there (subst (λ (p : Progress). With (flight_at p.guests c.args.guest) IsFlightOver) (sym c.self.view_is) c.requires) in
    room-owed _ _ _ _ _ _ c.self.invariant c.args.guest c.row_at-row.result there _ flies.sees

pub overflow_add-done : goal.overflow_add-done
overflow_add-done c =
    let there = rw c.as_slice.ensures.value at c.row_at-row.ensures in
    let flies = flying-row c.self.inside.history.events c.self.inside.rows.items c.args.guest c.row_at-row.result IsFlightOver c.self.invariant.placed there (subst (λ (p : Progress). With (flight_at p.guests c.args.guest) IsFlightOver) (sym c.self.view_is) c.requires) in
    omega (arith, flies.placed.numbered)

pub put_row-requires : goal.put_row-requires
put_row-requires c =
    let within = slice_get_within c.as_slice.result.now c.args.guest c.row_at-row.result c.row_at-row.ensures in
    let len = c.as_slice.ensures.len in
    omega arith

pub invariant_of-self : goal.invariant_of-self
invariant_of-self c =
    let there = rw c.as_slice.ensures.value at c.row_at-row.ensures in
    let flies = flying-row c.self.inside.history.events c.self.inside.rows.items c.args.guest c.row_at-row.result IsFlightOver c.self.invariant.placed there (subst (λ (p : Progress). With (flight_at p.guests c.args.guest) IsFlightOver) (sym c.self.view_is) c.requires) in
    let some = room-owed _ _ _ _ _ _ c.self.invariant c.args.guest c.row_at-row.result there _ flies.sees in
    rw c.put_row.ensures (in-step-put _ _ _ _ _ _ _ _ _ _
    (puts-retirement c.self.inside.history c.note_retirement.new.history c.self.inside.spare c.self.inside.rows.items c.args.guest c.row_at-row.result _ _
    c.note_retirement.ensures refl refl some there flies.sees)
    _ _ _ c.self.invariant)

pub returns : goal.returns
returns c =
    let there = rw c.as_slice.ensures.value at c.row_at-row.ensures in
    let flies = flying-row c.self.inside.history.events c.self.inside.rows.items c.args.guest c.row_at-row.result IsFlightOver c.self.invariant.placed there (subst (λ (p : Progress). With (flight_at p.guests c.args.guest) IsFlightOver) (sym c.self.view_is) c.requires) in
    let some = room-owed _ _ _ _ _ _ c.self.invariant c.args.guest c.row_at-row.result there _ flies.sees in
    let now = guests-then _ _ _ _ _ _ _ _ _ _
    (puts-retirement c.self.inside.history c.note_retirement.new.history c.self.inside.spare c.self.inside.rows.items c.args.guest c.row_at-row.result _ _
    c.note_retirement.ensures refl refl some there flies.sees)
    c.self.invariant.placed in
    let number = done-is c.self.inside.history.events c.self.inside.rows.items c.args.guest c.row_at-row.result there in
    rw (c.put_row.ensures, now, c.note_retirement.ensures, number, ← c.self.view_is) refl
