use Rattle.job_tables.proofs.JobsRest.{edges_stand}
use Rattle.job_tables.proofs.laws.edges_of_jobs_stand.Goals as goal

pub returns : goal.returns
returns c = edges_stand
