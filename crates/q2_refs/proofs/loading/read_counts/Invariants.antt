use Rattle.std.proofs.Common.{◌*◌}
use Rattle.blk_base.specs.Device.{Untouched}
use Rattle.q2_refs.specs.Kept.{AreAbsentZero, BlocksStand}
use Rattle.q2_refs.specs.Loading.{AreZeroFrom}
use Rattle.q2_refs.proofs.Ranges.{in_block}
use Rattle.q2_refs.proofs.loading.read_counts.Given as goal

abbrev pub invariant-loop-i : goal.invariant-loop-i
invariant-loop-i g l = record {
  zeros : AreZeroFrom l.counts (l.i * in_block l.h);
  absent : AreAbsentZero (in_block l.h) l.table l.counts (l.i * in_block l.h);
  stands : BlocksStand (g.D.Device.content l.fn.dev) (g.D.Device.size l.fn.dev) 2 (in_block l.h) l.table l.counts l.i;
  device : Untouched g.D.Device l.fn.dev l.dev;
}
