use Rattle.std.proofs.Common.{◌≡◌, ◌-◌, length, ◌||◌}
use Rattle.blk_bits.specs.Granules.{contains, those_below, overlaps_member}
use Rattle.blk_bits.proofs.dirty_set.DirtySet.add_overlapped.Given as goal

-- the set with what overlaps a member below the granule that is looked at next
abbrev pub invariant-loop-from : goal.invariant-loop-from
invariant-loop-from l =
    l.self ≡ those_below (length l.initial.self) (λ k. contains l.initial.self k || overlaps_member l.ratio l.other k l.seen)

abbrev pub decreases-loop-from : goal.decreases-loop-from
decreases-loop-from l = length l.other - l.seen
