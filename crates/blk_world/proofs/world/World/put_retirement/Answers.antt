use Rattle.std.proofs.Common.{refl}
use Rattle.world_parts.proofs.Coherence.{coherent-end}
use Rattle.blk_world.proofs.world.World.put_retirement.Goals as goal

pub invariant_of-self : goal.invariant_of-self
invariant_of-self g c =
    record { coherent = rw c.retire.ensures (coherent-end _ _ _ _ c.self.invariant.coherent _ c.args.guest refl); tell = c.self.invariant.tell; counted = c.self.invariant.counted; bitmaps = c.self.invariant.bitmaps; jobs = rw c.retire.ensures c.self.invariant.jobs; drains = c.self.invariant.drains }
