use Rattle.job_results.proofs.Once.{ends_once}
use Rattle.job_results.proofs.Results.{began, each_end, once}
use Rattle.job_results.proofs.laws.jobs_that_end_began.Goals as goal

pub returns-clause-ends : goal.returns-clause-ends
returns-clause-ends c = each_end

pub returns-clause-began : goal.returns-clause-began
returns-clause-began c = began

pub returns-clause-once : goal.returns-clause-once
returns-clause-once c = once

pub returns-clause-ends_once : goal.returns-clause-ends_once
returns-clause-ends_once c = ends_once
