use Rattle.job_commands.proofs.BitmapCommands.{opening_uses, command_uses, failure_uses, end_uses, entry_uses}
use Rattle.job_commands.proofs.laws.uses_of_bitmaps_go_on.Goals as goal

pub returns-clause-beginning : goal.returns-clause-beginning
returns-clause-beginning c = opening_uses

pub returns-clause-accepted : goal.returns-clause-accepted
returns-clause-accepted c = command_uses

pub returns-clause-failed : goal.returns-clause-failed
returns-clause-failed c = λ t create. failure_uses t create.options

pub returns-clause-ends : goal.returns-clause-ends
returns-clause-ends c = end_uses

pub returns-clause-entries : goal.returns-clause-entries
returns-clause-entries c = entry_uses
