use Rattle.job_tables.proofs.Copiers.{opening_copies, changes_leave_copies, snapshots_leave_copies, spoiled_copies, written_copies}
use Rattle.job_tables.proofs.laws.targets_stay_alone.Goals as goal

pub returns-clause-beginning : goal.returns-clause-beginning
returns-clause-beginning c = opening_copies

pub returns-clause-changes : goal.returns-clause-changes
returns-clause-changes c = changes_leave_copies

pub returns-clause-snapshots : goal.returns-clause-snapshots
returns-clause-snapshots c = snapshots_leave_copies

pub returns-clause-failed : goal.returns-clause-failed
returns-clause-failed c = spoiled_copies

pub returns-clause-writes : goal.returns-clause-writes
returns-clause-writes c = written_copies
