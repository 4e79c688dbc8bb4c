use Rattle.job_tables.proofs.Failed.{failed_drawn, failed_files, written_jobs, written_run}
use Rattle.job_tables.proofs.laws.failures_and_writes_keep_jobs.Goals as goal

pub returns-clause-failed : goal.returns-clause-failed
returns-clause-failed c = failed_drawn

pub returns-clause-files : goal.returns-clause-files
returns-clause-files c = failed_files

pub returns-clause-stand : goal.returns-clause-stand
returns-clause-stand c = written_jobs

pub returns-clause-run : goal.returns-clause-run
returns-clause-run c = written_run
