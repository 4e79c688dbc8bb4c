use Rattle.job_chains.proofs.LentKept.{opening_lent, changes_leave_lent, snapshots_leave_lent, spoiled_lent, written_lent}
use Rattle.job_chains.proofs.lent.bases_stay_lent.Goals as goal

pub returns-clause-beginning : goal.returns-clause-beginning
returns-clause-beginning c = opening_lent

pub returns-clause-changes : goal.returns-clause-changes
returns-clause-changes c = changes_leave_lent

pub returns-clause-snapshots : goal.returns-clause-snapshots
returns-clause-snapshots c = snapshots_leave_lent

pub returns-clause-failed : goal.returns-clause-failed
returns-clause-failed c = spoiled_lent

pub returns-clause-writes : goal.returns-clause-writes
returns-clause-writes c = written_lent
