use Rattle.world_parts.proofs.Coherence.{whole-new}
use Rattle.blk_world.proofs.world.World.put_world.Goals as goal

pub invariant_of-result : goal.invariant_of-result
invariant_of-result g c =
    let parts = c.in-Ok.ensures in
    let S = g.S.Store in
    rw (c.new.ensures, c.faults.ensures, parts.nodes, parts.names, parts.progress, parts.drained, parts.bitmaps, parts.works)
    (whole-new (S.files c.args.store) (S.opened c.args.store) (S.room c.args.store) (S.faults c.args.store) (S.failed_call c.args.store) c.args.guests c.args.room)
