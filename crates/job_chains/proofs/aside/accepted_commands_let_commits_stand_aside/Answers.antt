use Rattle.job_chains.proofs.AsideCommands.{accepted_aside, backup_aside, mirror_aside, stream_aside, commit_aside}
use Rattle.job_chains.proofs.aside.accepted_commands_let_commits_stand_aside.Goals as goal

pub returns-clause-commands : goal.returns-clause-commands
returns-clause-commands c = λ t told command rests g stands quiet. accepted_aside t told rests g stands command quiet

pub returns-clause-backup : goal.returns-clause-backup
returns-clause-backup c = backup_aside

pub returns-clause-mirror : goal.returns-clause-mirror
returns-clause-mirror c = mirror_aside

pub returns-clause-stream : goal.returns-clause-stream
returns-clause-stream c = stream_aside

pub returns-clause-commit : goal.returns-clause-commit
returns-clause-commit c = commit_aside
