use Rattle.job_commands.proofs.Copies.{command_leaves}
use Rattle.job_commands.proofs.Failed.{failure_leaves}
use Rattle.job_commands.proofs.laws.accepted_commands_leave_copies.Goals as goal

pub returns-clause-accepted : goal.returns-clause-accepted
returns-clause-accepted c = command_leaves

pub returns-clause-failed : goal.returns-clause-failed
returns-clause-failed c = λ t told create cause works h j refused none. failure_leaves t h j told create cause refused none works
