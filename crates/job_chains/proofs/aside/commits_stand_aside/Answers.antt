use Rattle.job_chains.proofs.AsideChanges.{opening_aside, changes_aside, snapshot_aside, spoiled_aside, written_aside}
use Rattle.job_chains.proofs.aside.commits_stand_aside.Goals as goal

pub returns-clause-beginning : goal.returns-clause-beginning
returns-clause-beginning c = opening_aside

pub returns-clause-changes : goal.returns-clause-changes
returns-clause-changes c = changes_aside

pub returns-clause-snapshots : goal.returns-clause-snapshots
returns-clause-snapshots c = snapshot_aside

pub returns-clause-failed : goal.returns-clause-failed
returns-clause-failed c = spoiled_aside

pub returns-clause-writes : goal.returns-clause-writes
returns-clause-writes c = written_aside
