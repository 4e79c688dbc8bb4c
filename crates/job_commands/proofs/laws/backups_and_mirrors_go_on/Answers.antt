use Rattle.job_commands.proofs.Copies.{command_goes}
use Rattle.job_commands.proofs.Failed.{failure_goes}
use Rattle.job_commands.proofs.laws.backups_and_mirrors_go_on.Goals as goal

pub returns-clause-accepted : goal.returns-clause-accepted
returns-clause-accepted c = command_goes

pub returns-clause-failed : goal.returns-clause-failed
returns-clause-failed c = failure_goes
