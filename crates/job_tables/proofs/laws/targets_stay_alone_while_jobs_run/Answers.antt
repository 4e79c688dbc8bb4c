use Rattle.job_tables.proofs.Copiers.{ends_keep_copies, ended_copies, readied_copies}
use Rattle.job_tables.proofs.CopierStarts.{starts_keep_copies}
use Rattle.job_tables.proofs.laws.targets_stay_alone_while_jobs_run.Goals as goal

pub returns-clause-starts : goal.returns-clause-starts
returns-clause-starts c = starts_keep_copies

pub returns-clause-ends : goal.returns-clause-ends
returns-clause-ends c = λ t row outcome j here g. ends_keep_copies t j row here outcome g

pub returns-clause-noted : goal.returns-clause-noted
returns-clause-noted c = ended_copies

pub returns-clause-ready : goal.returns-clause-ready
returns-clause-ready c = readied_copies
