use Rattle.job_chains.proofs.HeadersStart.{header_named, named_rests}
use Rattle.job_chains.proofs.headers.named_headers_can_be_rewritten.Goals as goal

pub returns-clause-named : goal.returns-clause-named
returns-clause-named c = header_named

pub returns-clause-rests : goal.returns-clause-rests
returns-clause-rests c = named_rests
