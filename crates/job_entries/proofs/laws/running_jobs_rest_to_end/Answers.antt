use Rattle.job_entries.proofs.Headers.{rests_by}
use Rattle.job_entries.proofs.laws.running_jobs_rest_to_end.Goals as goal

pub returns : goal.returns
returns c = rests_by
