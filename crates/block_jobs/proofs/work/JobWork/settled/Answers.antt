use Rattle.std.proofs.Common.{ap, sym, subst, List}
use Rattle.blk_copy.specs.declared.transfers.Transfer.{Transfer}
use Rattle.blk_copy.specs.Table.{Table}
use Rattle.block_jobs.specs.Work.{AreCopiesOf}
use Rattle.block_jobs.proofs.WorkLemmas.{copies_fewer}
use Rattle.block_jobs.proofs.work.JobWork.settled.Goals as goal

pub invariant_of-self : goal.invariant_of-self
invariant_of-self c =
    let is = c.self.invariant in
    record {
      size = is.size;
      some = is.some;
      sectors = is.sectors;
      blocks = is.blocks;
      left = is.left;
      copies = subst (λ (rows : List Transfer). AreCopiesOf c.self.inside.job c.self.inside.size rows) (sym (ap (λ (t : Table). t.rows) c.close_row.ensures.closed))
          (copies_fewer c.self.inside.job c.self.inside.size c.args.block c.self.inside.copies.rows is.copies);
    }
