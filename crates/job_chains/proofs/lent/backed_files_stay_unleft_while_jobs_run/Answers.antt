use Rattle.job_chains.proofs.LentLeftEvents.{noted_unleft, readied_unleft, started_unleft, starts_unleft}
use Rattle.job_chains.proofs.lent.backed_files_stay_unleft_while_jobs_run.Goals as goal

pub returns-clause-starts : goal.returns-clause-starts
returns-clause-starts c = starts_unleft

pub returns-clause-started : goal.returns-clause-started
returns-clause-started c = started_unleft

pub returns-clause-ready : goal.returns-clause-ready
returns-clause-ready c = readied_unleft

pub returns-clause-ends : goal.returns-clause-ends
returns-clause-ends c = noted_unleft
