use Rattle.job_commands.proofs.BegunKept.{command_begun, failure_begun, start_begun, backup_begun, mirror_begun, commit_begun}
use Rattle.job_commands.proofs.laws.jobs_have_begun_still.Goals as goal

pub returns-clause-accepted : goal.returns-clause-accepted
returns-clause-accepted c = command_begun

pub returns-clause-failed : goal.returns-clause-failed
returns-clause-failed c = λ s create. failure_begun s create.options

pub returns-clause-starts : goal.returns-clause-starts
returns-clause-starts c = start_begun

pub returns-clause-backup : goal.returns-clause-backup
returns-clause-backup c = backup_begun

pub returns-clause-mirror : goal.returns-clause-mirror
returns-clause-mirror c = mirror_begun

pub returns-clause-commit : goal.returns-clause-commit
returns-clause-commit c = commit_begun
