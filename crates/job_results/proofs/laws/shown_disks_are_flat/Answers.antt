use Rattle.job_results.proofs.Ends.{target_stays}
use Rattle.job_results.proofs.Results.{target_flat, target_none}
use Rattle.job_results.proofs.laws.shown_disks_are_flat.Goals as goal

pub returns-clause-flat : goal.returns-clause-flat
returns-clause-flat c = target_flat

pub returns-clause-targets : goal.returns-clause-targets
returns-clause-targets c = target_stays

pub returns-clause-unshown : goal.returns-clause-unshown
returns-clause-unshown c = target_none
