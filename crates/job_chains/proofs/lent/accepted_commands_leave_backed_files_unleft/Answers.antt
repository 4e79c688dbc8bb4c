use Rattle.job_chains.proofs.LentLeftCommands.{accepted_unleft, backup_unleft, mirror_unleft, stream_unleft, commit_unleft}
use Rattle.job_chains.proofs.lent.accepted_commands_leave_backed_files_unleft.Goals as goal

pub returns-clause-commands : goal.returns-clause-commands
returns-clause-commands c = λ s told c rests j r d g. accepted_unleft s told told rests j r d g c

pub returns-clause-backup : goal.returns-clause-backup
returns-clause-backup c = λ s told c h j r d g met. backup_unleft s told h j r d g c met

pub returns-clause-mirror : goal.returns-clause-mirror
returns-clause-mirror c = λ s told c h j r d g met. mirror_unleft s told h j r d g c met

pub returns-clause-stream : goal.returns-clause-stream
returns-clause-stream c = λ s told c h j r d g met. stream_unleft s told h j r d g c met

pub returns-clause-commit : goal.returns-clause-commit
returns-clause-commit c = λ s told c h j r d g met. commit_unleft s told h j r d g c met
