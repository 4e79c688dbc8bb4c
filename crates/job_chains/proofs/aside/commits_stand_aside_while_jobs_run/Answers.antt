use Rattle.job_chains.proofs.AsideCommands.{noted_aside, readied_aside}
use Rattle.job_chains.proofs.AsideEnds.{end_aside}
use Rattle.job_chains.proofs.AsideStarts.{start_aside}
use Rattle.job_chains.proofs.aside.commits_stand_aside_while_jobs_run.Goals as goal

pub returns-clause-starts : goal.returns-clause-starts
returns-clause-starts c = start_aside

pub returns-clause-ends : goal.returns-clause-ends
returns-clause-ends c = λ t row outcome h g here stands. end_aside t row outcome h g.jobs.stand g.edges g.small here stands

pub returns-clause-noted : goal.returns-clause-noted
returns-clause-noted c = λ s number why h g stands. noted_aside s number why h g.jobs.stand g.edges g.small stands

pub returns-clause-ready : goal.returns-clause-ready
returns-clause-ready c = readied_aside
