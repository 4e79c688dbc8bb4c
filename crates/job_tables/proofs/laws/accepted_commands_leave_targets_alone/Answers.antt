use Rattle.job_tables.proofs.CopierCommands.{accepted_goes}
use Rattle.job_tables.proofs.StartCommands.{backup_goes, mirror_goes, stream_goes, commit_goes}
use Rattle.job_tables.proofs.laws.accepted_commands_leave_targets_alone.Goals as goal

pub returns-clause-commands : goal.returns-clause-commands
returns-clause-commands c = λ t told c rests j r d g. accepted_goes t told told rests j r d g c

pub returns-clause-backup : goal.returns-clause-backup
returns-clause-backup c = backup_goes

pub returns-clause-mirror : goal.returns-clause-mirror
returns-clause-mirror c = mirror_goes

pub returns-clause-stream : goal.returns-clause-stream
returns-clause-stream c = stream_goes

pub returns-clause-commit : goal.returns-clause-commit
returns-clause-commit c = commit_goes
