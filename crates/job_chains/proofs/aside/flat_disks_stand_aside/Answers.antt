use Rattle.job_chains.proofs.AsideChains.{chains_aside}
use Rattle.job_chains.proofs.AsideChanges.{top_plain, under_plain, settled_none}
use Rattle.job_chains.proofs.aside.flat_disks_stand_aside.Goals as goal

pub returns-clause-unsettled : goal.returns-clause-unsettled
returns-clause-unsettled c = λ t row node h j stands here kind there own reads.
    stands row here kind node there own (chains_aside t h row (top_plain t j row here) (under_plain t j row here) node there own reads)

pub returns-clause-settled : goal.returns-clause-settled
returns-clause-settled c = λ t node h j stands settled. settled_none t h j stands node settled
