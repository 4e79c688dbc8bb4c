use Rattle.job_commands.proofs.Granules.{opening_granules, command_granules, failure_granules, end_granules, stepped_granules, entry_granules}
use Rattle.job_commands.proofs.laws.granules_stand.Goals as goal

pub returns-clause-beginning : goal.returns-clause-beginning
returns-clause-beginning c = opening_granules

pub returns-clause-accepted : goal.returns-clause-accepted
returns-clause-accepted c = command_granules

pub returns-clause-failed : goal.returns-clause-failed
returns-clause-failed c = λ t ds create. failure_granules t ds create.options

pub returns-clause-ends : goal.returns-clause-ends
returns-clause-ends c = end_granules

pub returns-clause-states : goal.returns-clause-states
returns-clause-states c = stepped_granules

pub returns-clause-entries : goal.returns-clause-entries
returns-clause-entries c = entry_granules
