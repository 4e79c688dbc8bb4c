use Rattle.std.proofs.Common.{refl}
use Rattle.world_parts.proofs.Coherence.{coherent-end, coherent-admission}
use Rattle.world_parts.proofs.Judging.{seat-fits, seat-allows}
use Rattle.blk_world.proofs.world.World.put_admission.Goals as goal

pub invariant_of-self : goal.invariant_of-self
invariant_of-self g c =
    record { coherent = rw c.refuse.ensures (coherent-end _ _ _ _ c.self.invariant.coherent _ c.args.guest refl); tell = c.self.invariant.tell; counted = c.self.invariant.counted; bitmaps = c.self.invariant.bitmaps; jobs = rw c.refuse.ensures c.self.invariant.jobs; drains = c.self.invariant.drains }

pub invariant_of-self-in-None : goal.invariant_of-self-in-None
invariant_of-self-in-None g c =
    record {
      coherent = rw c.admit.ensures.kept (coherent-admission _ _ _ _ c.self.invariant.coherent c.args.guest c.args.op
          (seat-fits _ c.args.guest c.in-Some.seat c.args.op c.in-Some.ensures c.in-None.ensures.inside)
          (seat-allows _ c.args.guest c.in-Some.seat c.args.op c.in-Some.ensures c.in-None.ensures.allowed));
      tell = c.self.invariant.tell;
      counted = c.self.invariant.counted;
      bitmaps = c.self.invariant.bitmaps;
      jobs = rw c.admit.ensures.kept c.self.invariant.jobs;
      drains = c.self.invariant.drains;
    }
