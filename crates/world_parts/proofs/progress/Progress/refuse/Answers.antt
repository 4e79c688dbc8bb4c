use Rattle.std.specs.Prelude.{slice_get}
use Rattle.blk_history.specs.Fold.{With}
use Rattle.world_parts.specs.Progress.{Progress, IsFree}
use Rattle.std.proofs.Common.{◌≡◌, ◌<◌, refl, sym, ap, subst, arith}
use Rattle.world_parts.proofs.InStep.{idle-row, done-is, puts-refusal, in-step-put, guests-then}
use Rattle.world_parts.proofs.progress.Progress.refuse.Goals as goal

pub invariant_of-self : goal.invariant_of-self
invariant_of-self c =
    let there = rw c.as_slice.ensures.value at c.row_at-row.ensures in
    let was = c.self.invariant in
    let room = was.room in
    let has = c.requires.room in
    let viewed : c.self.inside.spare.entries ≡ c.args.self.now.spare.entries = ap (λ (p : Progress). p.spare.entries) c.self.view_is in
    let some : 0 < c.self.inside.history.room = omega arith in
    let spared : 0 < c.self.inside.spare.entries = omega arith in
    let free = idle-row c.self.inside.history.events c.self.inside.rows.items c.args.guest c.row_at-row.result there (subst (λ (p : Progress). With (slice_get p.guests c.args.guest) IsFree) (sym c.self.view_is) c.requires.free) in
    rw c.put_row.ensures (in-step-put _ _ _ _ _ _ _ _ _ _
    (puts-refusal c.self.inside.history c.note_refusal.new.history c.self.inside.spare c.less-spare.result c.self.inside.rows.items c.args.guest c.row_at-row.result _
    c.note_refusal.ensures refl refl c.less-spare.ensures some spared there free)
    _ _ _ was)

pub returns : goal.returns
returns c =
    let there = rw c.as_slice.ensures.value at c.row_at-row.ensures in
    let was = c.self.invariant in
    let room = was.room in
    let has = c.requires.room in
    let viewed : c.self.inside.spare.entries ≡ c.args.self.now.spare.entries = ap (λ (p : Progress). p.spare.entries) c.self.view_is in
    let some : 0 < c.self.inside.history.room = omega arith in
    let spared : 0 < c.self.inside.spare.entries = omega arith in
    let free = idle-row c.self.inside.history.events c.self.inside.rows.items c.args.guest c.row_at-row.result there (subst (λ (p : Progress). With (slice_get p.guests c.args.guest) IsFree) (sym c.self.view_is) c.requires.free) in
    let now = guests-then _ _ _ _ _ _ _ _ _ _
    (puts-refusal c.self.inside.history c.note_refusal.new.history c.self.inside.spare c.less-spare.result c.self.inside.rows.items c.args.guest c.row_at-row.result _
    c.note_refusal.ensures refl refl c.less-spare.ensures some spared there free)
    was.placed in
    let number = done-is c.self.inside.history.events c.self.inside.rows.items c.args.guest c.row_at-row.result there in
    rw (c.put_row.ensures, now, c.note_refusal.ensures, c.less-spare.ensures, number, ← c.self.view_is) refl
