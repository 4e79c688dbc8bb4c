use Rattle.job_results.proofs.Results.{backups, failed}
use Rattle.job_results.proofs.laws.other_ends_settle_none.Goals as goal

pub returns-clause-backups : goal.returns-clause-backups
returns-clause-backups c = backups

pub returns-clause-failed : goal.returns-clause-failed
returns-clause-failed c = failed
