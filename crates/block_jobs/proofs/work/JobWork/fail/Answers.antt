use Rattle.std.proofs.Common.{◌∙◌, ap, length, sym, subst, List}
use Rattle.std.proofs.lemmas.List.{length-replicate}
use Rattle.blk_copy.specs.declared.transfers.Transfer.{Transfer}
use Rattle.blk_copy.specs.Table.{Table}
use Rattle.block_jobs.specs.Work.{AreCopiesOf}
use Rattle.block_jobs.proofs.work.JobWork.fail.Goals as goal

pub invariant_of-self : goal.invariant_of-self
invariant_of-self c =
    let is = c.self.invariant in
    record {
      size = is.size;
      some = is.some;
      sectors = is.sectors;
      blocks = is.blocks;
      left = ap length c.empty.ensures ∙ length-replicate _ _ ∙ is.left;
      copies = subst (λ (rows : List Transfer). AreCopiesOf c.self.inside.job c.self.inside.size rows) (sym (ap (λ (t : Table). t.rows) c.clear.ensures)) tt;
    }
