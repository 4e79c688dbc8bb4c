use Rattle.std.proofs.Common.{refl, arith}
use Rattle.world_parts.proofs.Ends.{marked-other, marked-done}
use Rattle.world_parts.proofs.Rows.{placed-put, placed-at, guests-same}
use Rattle.world_parts.proofs.progress.mark_done.Goals as goal

pub returns-then-actor-eq0-clause-guests : goal.returns-then-actor-eq0-clause-guests
returns-then-actor-eq0-clause-guests c = λ ended all.
    let none = c.if-actor-eq0.true in
    marked-other ended c.args.actor 1 c.args.rows.now.items (omega arith) all

pub returns-clause-guests : goal.returns-clause-guests
returns-clause-guests c = λ ended all.
    rw c.put_row.ensures (marked-done ended c.args.actor c.args.rows.now.items c.row_at-row.result c.if-actor-eq0.false (rw c.as_slice.ensures.value at c.row_at-row.ensures) all)

pub returns-clause-placed : goal.returns-clause-placed
returns-clause-placed c = λ events all.
    rw c.put_row.ensures (placed-put events c.args.rows.now.items _ _ all (placed-at events c.args.rows.now.items _ c.row_at-row.result all (rw c.as_slice.ensures.value at c.row_at-row.ensures)))

pub returns-clause-kept : goal.returns-clause-kept
returns-clause-kept c = λ events. rw c.put_row.ensures (guests-same events c.args.rows.now.items _ c.row_at-row.result _ (rw c.as_slice.ensures.value at c.row_at-row.ensures) refl)
