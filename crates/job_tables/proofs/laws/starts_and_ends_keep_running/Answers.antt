use Rattle.job_tables.proofs.Noted.{ended_run, readied_run}
use Rattle.job_tables.proofs.Runs.{ends_keep_run}
use Rattle.job_tables.proofs.RunStarts.{starts_run}
use Rattle.job_tables.proofs.laws.starts_and_ends_keep_running.Goals as goal

pub returns-clause-starts : goal.returns-clause-starts
returns-clause-starts c = starts_run

pub returns-clause-ends : goal.returns-clause-ends
returns-clause-ends c = λ t row outcome h j r here. ends_keep_run t h j row here outcome r

pub returns-clause-noted : goal.returns-clause-noted
returns-clause-noted c = ended_run

pub returns-clause-ready : goal.returns-clause-ready
returns-clause-ready c = readied_run
