use Rattle.job_chains.proofs.HeadersStart.{failed_headers, other_headers, piece_headers}
use Rattle.job_chains.proofs.HeadersStay.{leaving_headers, no_headers, snapshot_headers}
use Rattle.job_chains.proofs.headers.headers_stay_named.Goals as goal

pub returns-clause-beginning : goal.returns-clause-beginning
returns-clause-beginning c = no_headers

pub returns-clause-changes : goal.returns-clause-changes
returns-clause-changes c = leaving_headers

pub returns-clause-snapshots : goal.returns-clause-snapshots
returns-clause-snapshots c = snapshot_headers

pub returns-clause-failed : goal.returns-clause-failed
returns-clause-failed c = failed_headers

pub returns-clause-pieces : goal.returns-clause-pieces
returns-clause-pieces c = piece_headers

pub returns-clause-others : goal.returns-clause-others
returns-clause-others c = other_headers
