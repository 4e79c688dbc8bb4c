use Rattle.job_tables.proofs.StartCommands.{met_backup, met_mirror, met_stream, met_commit_begins}
use Rattle.job_tables.proofs.laws.accepted_starts_begin.Goals as goal

pub returns-clause-backup : goal.returns-clause-backup
returns-clause-backup c = met_backup

pub returns-clause-mirror : goal.returns-clause-mirror
returns-clause-mirror c = met_mirror

pub returns-clause-stream : goal.returns-clause-stream
returns-clause-stream c = met_stream

pub returns-clause-commit : goal.returns-clause-commit
returns-clause-commit c = met_commit_begins
