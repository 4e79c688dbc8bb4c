use Rattle.job_tables.proofs.Commands.{accepted_keep_jobs}
use Rattle.job_tables.proofs.DrawnCommands.{accepted_drawn}
use Rattle.job_tables.proofs.laws.accepted_commands_keep_jobs.Goals as goal

pub returns-clause-stand : goal.returns-clause-stand
returns-clause-stand c = λ t told c rests j r d h. (accepted_keep_jobs t told told c rests (record { stand = j; run = r }) h d).stand

pub returns-clause-run : goal.returns-clause-run
returns-clause-run c = λ t told c rests j r d h. (accepted_keep_jobs t told told c rests (record { stand = j; run = r }) h d).run

pub returns-clause-drawn : goal.returns-clause-drawn
returns-clause-drawn c = λ t told c rests g guests h. accepted_drawn t told told rests g guests c h
