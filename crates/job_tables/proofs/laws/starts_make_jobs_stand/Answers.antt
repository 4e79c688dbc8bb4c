use Rattle.job_tables.proofs.Started.{starts_stand}
use Rattle.job_tables.proofs.laws.starts_make_jobs_stand.Goals as goal

pub returns : goal.returns
returns c = starts_stand
