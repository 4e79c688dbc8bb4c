use Rattle.job_tables.proofs.TargetEvents.{starts_keep_files, start_noted, readied_files, ended_files}
use Rattle.job_tables.proofs.laws.target_files_stand_while_jobs_run.Goals as goal

pub returns-clause-starts : goal.returns-clause-starts
returns-clause-starts c = λ s row h j r b started f. starts_keep_files s row h j r b.job b.run started f

pub returns-clause-started : goal.returns-clause-started
returns-clause-started c = λ s number h j turn some f. start_noted s number h j turn f some

pub returns-clause-ready : goal.returns-clause-ready
returns-clause-ready c = readied_files

pub returns-clause-ended : goal.returns-clause-ended
returns-clause-ended c = ended_files
