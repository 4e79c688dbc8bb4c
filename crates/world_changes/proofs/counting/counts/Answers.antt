use Rattle.std.proofs.Common.{arith, ◌<◌, length, subst, sym}
use Rattle.world_parts.specs.Recorded.{AreSound}
use Rattle.world_changes.proofs.BitmapsChanged.{counts-more}
use Rattle.world_changes.proofs.counting.counts.Goals as goal

pub loop-row-preserved : goal.loop-row-preserved
loop-row-preserved c =
    let less : c.loop-row.row-index < length c.rows-rows.result.now = omega arith in
    let free : AreSound c.rows-rows.result.now = subst AreSound (sym c.rows-rows.ensures) c.requires in
    rw c.in_ok-push.ensures.items
    (counts-more c.rows-rows.result.now c.loop-row.row-index c.row-item.result c.loop-row.counts.items c.dirty_bytes.result less c.row-item.is free
    c.dirty_bytes.ensures c.loop-row.invariant)
