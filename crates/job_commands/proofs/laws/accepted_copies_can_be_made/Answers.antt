use Rattle.job_commands.proofs.Copied.{backup_can, mirror_can, commit_can}
use Rattle.job_commands.proofs.laws.accepted_copies_can_be_made.Goals as goal

pub returns-clause-backup : goal.returns-clause-backup
returns-clause-backup c = backup_can

pub returns-clause-mirror : goal.returns-clause-mirror
returns-clause-mirror c = mirror_can

pub returns-clause-commit : goal.returns-clause-commit
returns-clause-commit c = commit_can
