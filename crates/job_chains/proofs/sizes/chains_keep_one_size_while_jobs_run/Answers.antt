use Rattle.job_chains.proofs.SizesTurns.{starts_keep_sizes, ends_keep_sizes, ended_sizes, readied_sizes}
use Rattle.job_chains.proofs.sizes.chains_keep_one_size_while_jobs_run.Goals as goal

pub returns-clause-starts : goal.returns-clause-starts
returns-clause-starts c = starts_keep_sizes

pub returns-clause-ends : goal.returns-clause-ends
returns-clause-ends c = ends_keep_sizes

pub returns-clause-noted : goal.returns-clause-noted
returns-clause-noted c = ended_sizes

pub returns-clause-ready : goal.returns-clause-ready
returns-clause-ready c = readied_sizes
