use Rattle.job_chains.proofs.LentCommands.{accepted_lent, backup_lent, mirror_lent, stream_lent, commit_lent}
use Rattle.job_chains.proofs.lent.accepted_commands_leave_bases_lent.Goals as goal

pub returns-clause-commands : goal.returns-clause-commands
returns-clause-commands c = λ t told c rests j r d g. accepted_lent t told told rests j r d g c

pub returns-clause-backup : goal.returns-clause-backup
returns-clause-backup c = backup_lent

pub returns-clause-mirror : goal.returns-clause-mirror
returns-clause-mirror c = mirror_lent

pub returns-clause-stream : goal.returns-clause-stream
returns-clause-stream c = stream_lent

pub returns-clause-commit : goal.returns-clause-commit
returns-clause-commit c = commit_lent
