use Rattle.job_chains.proofs.SizesJobs.{base_size, written_size, rebased_size}
use Rattle.job_chains.proofs.sizes.nodes_of_jobs_have_one_size.Goals as goal

pub returns-clause-commits : goal.returns-clause-commits
returns-clause-commits c = base_size

pub returns-clause-targets : goal.returns-clause-targets
returns-clause-targets c = written_size

pub returns-clause-rebased : goal.returns-clause-rebased
returns-clause-rebased c = rebased_size
