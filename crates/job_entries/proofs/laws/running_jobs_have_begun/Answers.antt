use Rattle.job_entries.proofs.Found.{opening_begun, started_begun, readied_begun, ended_begun, leaving_begun, snapshot_begun, beginning_begun, other_begun, rest_begun}
use Rattle.job_entries.proofs.laws.running_jobs_have_begun.Goals as goal

pub returns-clause-beginning : goal.returns-clause-beginning
returns-clause-beginning c = opening_begun

pub returns-clause-starts : goal.returns-clause-starts
returns-clause-starts c = λ s row j here turn whole. started_begun s row j here turn whole

pub returns-clause-ready : goal.returns-clause-ready
returns-clause-ready c = readied_begun

pub returns-clause-ends : goal.returns-clause-ends
returns-clause-ends c = λ s row why j here. ended_begun s row why j here

pub returns-clause-changes : goal.returns-clause-changes
returns-clause-changes c = leaving_begun

pub returns-clause-snapshots : goal.returns-clause-snapshots
returns-clause-snapshots c = snapshot_begun

pub returns-clause-begins : goal.returns-clause-begins
returns-clause-begins c = beginning_begun

pub returns-clause-others : goal.returns-clause-others
returns-clause-others c = other_begun

pub returns-clause-rest : goal.returns-clause-rest
returns-clause-rest c = rest_begun
