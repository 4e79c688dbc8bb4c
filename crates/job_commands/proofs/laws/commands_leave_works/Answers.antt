use Rattle.job_commands.proofs.Copies.{command_belongs, command_begins, command_found}
use Rattle.job_commands.proofs.Failed.{failure_belongs}
use Rattle.job_commands.proofs.laws.commands_leave_works.Goals as goal

pub returns-clause-accepted : goal.returns-clause-accepted
returns-clause-accepted c = command_belongs

pub returns-clause-begins : goal.returns-clause-begins
returns-clause-begins c = command_begins

pub returns-clause-failed : goal.returns-clause-failed
returns-clause-failed c = λ t told create cause works h j refused none belong. failure_belongs t h j told create cause refused none works belong

pub returns-clause-found : goal.returns-clause-found
returns-clause-found c = command_found
