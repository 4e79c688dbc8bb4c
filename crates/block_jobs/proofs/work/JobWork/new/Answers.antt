use Rattle.std.proofs.Common.{sym, subst}
use Rattle.block_jobs.specs.Work.{JobWork, IsJobWork}
use Rattle.block_jobs.proofs.WorkLemmas.{begun_stands, begun_is}
use Rattle.block_jobs.proofs.work.JobWork.new.Goals as goal

pub returns : goal.returns
returns c =
    begun_is c.args.kind c.args.job c.args.size c.args.granularity c.part_bytes-part.result c.part_count.result c.room_for.result c.in_ok-left.left
    c.in_ok-copies.copies c.part_bytes-part.ensures c.part_count.ensures c.in_ok-left.ensures c.room_for.ensures c.in_ok-copies.ensures

pub invariant_of-result : goal.invariant_of-result
invariant_of-result c =
    subst (λ (w : JobWork). IsJobWork w)
    (sym (begun_is c.args.kind c.args.job c.args.size c.args.granularity c.part_bytes-part.result c.part_count.result c.room_for.result c.in_ok-left.left
    c.in_ok-copies.copies c.part_bytes-part.ensures c.part_count.ensures c.in_ok-left.ensures c.room_for.ensures c.in_ok-copies.ensures))
    (begun_stands c.args.kind c.args.job c.args.size c.args.granularity c.requires.size c.requires.some)
