use Rattle.job_ends.proofs.Commands.{command_rows}
use Rattle.job_ends.proofs.Histories.{entry_rows, history_rows}
use Rattle.job_ends.proofs.Rows.{no_rows, changes_rows, leaving_rows, start_rows, end_rows, backup_row, mirror_row}
use Rattle.job_ends.proofs.laws.rows_of_copies_stay.Goals as goal

pub returns-clause-beginning : goal.returns-clause-beginning
returns-clause-beginning c = no_rows

pub returns-clause-changes : goal.returns-clause-changes
returns-clause-changes c = changes_rows

pub returns-clause-leaves : goal.returns-clause-leaves
returns-clause-leaves c = leaving_rows

pub returns-clause-starts : goal.returns-clause-starts
returns-clause-starts c = start_rows

pub returns-clause-ends : goal.returns-clause-ends
returns-clause-ends c = λ t row outcome. end_rows row t outcome

pub returns-clause-backup : goal.returns-clause-backup
returns-clause-backup c = backup_row

pub returns-clause-commands : goal.returns-clause-commands
returns-clause-commands c = command_rows

pub returns-clause-entries : goal.returns-clause-entries
returns-clause-entries c = entry_rows

pub returns-clause-histories : goal.returns-clause-histories
returns-clause-histories c = history_rows

pub returns-clause-mirror : goal.returns-clause-mirror
returns-clause-mirror c = mirror_row
