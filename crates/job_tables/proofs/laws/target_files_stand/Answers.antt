use Rattle.job_tables.proofs.TargetFiles.{changes_leave_files}
use Rattle.job_tables.proofs.TargetEvents.{opening_files, accepted_files, piece_files}
use Rattle.job_tables.proofs.laws.target_files_stand.Goals as goal

pub returns-clause-beginning : goal.returns-clause-beginning
returns-clause-beginning c = opening_files

pub returns-clause-changes : goal.returns-clause-changes
returns-clause-changes c = changes_leave_files

pub returns-clause-commands : goal.returns-clause-commands
returns-clause-commands c = λ s told c. accepted_files s told told c

pub returns-clause-pieces : goal.returns-clause-pieces
returns-clause-pieces c = piece_files
