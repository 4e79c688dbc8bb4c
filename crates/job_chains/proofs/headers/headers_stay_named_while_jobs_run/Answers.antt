use Rattle.job_chains.proofs.HeadersStart.{end_headers, ended_headers, ready_headers, start_headers, started_headers}
use Rattle.job_chains.proofs.headers.headers_stay_named_while_jobs_run.Goals as goal

pub returns-clause-starts : goal.returns-clause-starts
returns-clause-starts c = start_headers

pub returns-clause-started : goal.returns-clause-started
returns-clause-started c = started_headers

pub returns-clause-ready : goal.returns-clause-ready
returns-clause-ready c = ready_headers

pub returns-clause-ends : goal.returns-clause-ends
returns-clause-ends c = end_headers

pub returns-clause-ended : goal.returns-clause-ended
returns-clause-ended c = ended_headers
