use Rattle.job_tables.proofs.Noted.{ended_drawn, ended_jobs, readied_jobs}
use Rattle.job_tables.proofs.laws.noted_ends_keep_jobs.Goals as goal

pub returns-clause-drawn : goal.returns-clause-drawn
returns-clause-drawn c = ended_drawn

pub returns-clause-stand : goal.returns-clause-stand
returns-clause-stand c = ended_jobs

pub returns-clause-ready : goal.returns-clause-ready
returns-clause-ready c = readied_jobs
