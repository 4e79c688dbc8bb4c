use Rattle.std.proofs.Common.{length}
use Rattle.blk_bits.proofs.dirty_set.+next_member.Given as goal

abbrev pub decreases-next_member : goal.decreases-next_member
decreases-next_member l = length l.above.now
