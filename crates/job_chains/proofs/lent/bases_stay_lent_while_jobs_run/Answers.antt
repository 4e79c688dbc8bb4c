use Rattle.job_chains.proofs.LentKept.{ends_keep_lent, ended_lent, readied_lent}
use Rattle.job_chains.proofs.LentRead.{lent_by_read}
use Rattle.job_chains.proofs.LentStarts.{starts_keep_lent}
use Rattle.job_chains.proofs.lent.bases_stay_lent_while_jobs_run.Goals as goal

pub returns-clause-starts : goal.returns-clause-starts
returns-clause-starts c = starts_keep_lent

pub returns-clause-read : goal.returns-clause-read
returns-clause-read c = lent_by_read

pub returns-clause-ends : goal.returns-clause-ends
returns-clause-ends c = λ t row outcome j here g. ends_keep_lent t j row here outcome g

pub returns-clause-noted : goal.returns-clause-noted
returns-clause-noted c = ended_lent

pub returns-clause-ready : goal.returns-clause-ready
returns-clause-ready c = readied_lent
