use Rattle.std.specs.Prelude.{slice_get}
use Rattle.blk_history.specs.Fold.{With}
use Rattle.world_parts.specs.Progress.{Progress, IsFree, HasRoomFor}
use Rattle.std.proofs.Common.{◌<◌, refl, sym, subst, arith}
use Rattle.world_parts.proofs.InStep.{idle-row, done-is, puts-admission, in-step-put, guests-then}
use Rattle.world_parts.proofs.progress.Progress.admit.Goals as goal

pub invariant_of-self : goal.invariant_of-self
invariant_of-self c =
    let there = rw c.as_slice.ensures.value at c.row_at-row.ensures in
    let was = c.self.invariant in
    let room = was.room in
    let spared = rw (c.pieces.ensures, c.read_bytes.ensures) at c.less-spare.ensures in
    let has = subst (λ (p : Progress). HasRoomFor c.args.op p.spare) (sym c.self.view_is) c.requires.room in
    let entries = has.entries in
    let some : 0 < c.self.inside.history.room = omega arith in
    let free = idle-row c.self.inside.history.events c.self.inside.rows.items c.args.guest c.row_at-row.result there (subst (λ (p : Progress). With (slice_get p.guests c.args.guest) IsFree) (sym c.self.view_is) c.requires.free) in
    rw (c.put_row.ensures, c.note_admission-place.ensures.place) (in-step-put _ _ _ _ _ _ _ _ _ _
    (puts-admission c.self.inside.history c.note_admission-place.new.history c.self.inside.spare c.less-spare.result c.self.inside.rows.items c.args.guest c.row_at-row.result c.args.op
    c.note_admission-place.ensures.noted spared some there free has)
    _ _ _ was)

pub returns-clause-number : goal.returns-clause-number
returns-clause-number c =
    let there = rw c.as_slice.ensures.value at c.row_at-row.ensures in
    rw (← c.self.view_is) (done-is c.self.inside.history.events c.self.inside.rows.items c.args.guest c.row_at-row.result there)

pub returns-clause-kept : goal.returns-clause-kept
returns-clause-kept c =
    let there = rw c.as_slice.ensures.value at c.row_at-row.ensures in
    let was = c.self.invariant in
    let room = was.room in
    let spared = rw (c.pieces.ensures, c.read_bytes.ensures) at c.less-spare.ensures in
    let has = subst (λ (p : Progress). HasRoomFor c.args.op p.spare) (sym c.self.view_is) c.requires.room in
    let entries = has.entries in
    let some : 0 < c.self.inside.history.room = omega arith in
    let free = idle-row c.self.inside.history.events c.self.inside.rows.items c.args.guest c.row_at-row.result there (subst (λ (p : Progress). With (slice_get p.guests c.args.guest) IsFree) (sym c.self.view_is) c.requires.free) in
    let now = guests-then _ _ _ _ _ _ _ _ _ _
    (puts-admission c.self.inside.history c.note_admission-place.new.history c.self.inside.spare c.less-spare.result c.self.inside.rows.items c.args.guest c.row_at-row.result c.args.op
    c.note_admission-place.ensures.noted spared some there free has)
    was.placed in
    let number = done-is c.self.inside.history.events c.self.inside.rows.items c.args.guest c.row_at-row.result there in
    rw (c.put_row.ensures, c.note_admission-place.ensures.place, now, c.note_admission-place.ensures.noted, spared, number, ← c.self.view_is) refl
