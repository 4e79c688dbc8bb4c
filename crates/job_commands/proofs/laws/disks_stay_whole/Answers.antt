use Rattle.job_commands.proofs.WholeCommands.{command_whole, failure_whole}
use Rattle.job_commands.proofs.WholeEntries.{piece_keeps_whole, started_whole, readied_whole, opening_whole, beside_whole}
use Rattle.job_commands.proofs.WholeEnds.{ended_whole}
use Rattle.job_commands.proofs.laws.disks_stay_whole.Goals as goal

pub returns-clause-beginning : goal.returns-clause-beginning
returns-clause-beginning c = opening_whole

pub returns-clause-accepted : goal.returns-clause-accepted
returns-clause-accepted c = command_whole

pub returns-clause-failed : goal.returns-clause-failed
returns-clause-failed c = λ s create. failure_whole s create.options

pub returns-clause-pieces : goal.returns-clause-pieces
returns-clause-pieces c = piece_keeps_whole

pub returns-clause-starts : goal.returns-clause-starts
returns-clause-starts c = started_whole

pub returns-clause-ready : goal.returns-clause-ready
returns-clause-ready c = readied_whole

pub returns-clause-ends : goal.returns-clause-ends
returns-clause-ends c = ended_whole

pub returns-clause-others : goal.returns-clause-others
returns-clause-others c = beside_whole
