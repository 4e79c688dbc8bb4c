use Rattle.std.proofs.Common.{◌∙◌, ap, length}
use Rattle.block_jobs.proofs.PartLemmas.{length-those_below}
use Rattle.block_jobs.proofs.work.JobWork.take_block_off.Goals as goal

pub invariant_of-self : goal.invariant_of-self
invariant_of-self c =
    let is = c.self.invariant in
    record {
      size = is.size;
      some = is.some;
      sectors = is.sectors;
      blocks = is.blocks;
      left = ap length c.take_off.ensures ∙ length-those_below _ _ ∙ is.left;
      copies = is.copies;
    }
