use Rattle.job_tables.proofs.StartCommands.{kept_backup, kept_mirror, kept_stream, kept_commit}
use Rattle.job_tables.proofs.laws.accepted_starts_keep_jobs.Goals as goal

pub returns-clause-backup : goal.returns-clause-backup
returns-clause-backup c = kept_backup

pub returns-clause-mirror : goal.returns-clause-mirror
returns-clause-mirror c = kept_mirror

pub returns-clause-stream : goal.returns-clause-stream
returns-clause-stream c = kept_stream

pub returns-clause-commit : goal.returns-clause-commit
returns-clause-commit c = kept_commit
