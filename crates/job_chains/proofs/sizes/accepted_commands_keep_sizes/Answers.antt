use Rattle.job_chains.proofs.SizesCommands.{accepted_sizes, stream_sizes, commit_sizes}
use Rattle.job_chains.proofs.SizesTold.{told_sizes}
use Rattle.job_chains.proofs.sizes.accepted_commands_keep_sizes.Goals as goal

pub returns-clause-told : goal.returns-clause-told
returns-clause-told c = told_sizes

pub returns-clause-commands : goal.returns-clause-commands
returns-clause-commands c = λ t told command rests j r d tells quiet sized. accepted_sizes t told told rests j r d command tells quiet sized

pub returns-clause-stream : goal.returns-clause-stream
returns-clause-stream c = stream_sizes

pub returns-clause-commit : goal.returns-clause-commit
returns-clause-commit c = commit_sizes
