use Rattle.job_chains.proofs.HeadersStart.{accepted_headers, commit_edits, stream_edits, stream_image}
use Rattle.job_chains.proofs.headers.accepted_commands_keep_headers_named.Goals as goal

pub returns-clause-begins : goal.returns-clause-begins
returns-clause-begins c = stream_image

pub returns-clause-stream : goal.returns-clause-stream
returns-clause-stream c = stream_edits

pub returns-clause-commit : goal.returns-clause-commit
returns-clause-commit c = commit_edits

pub returns-clause-commands : goal.returns-clause-commands
returns-clause-commands c = λ s told c. accepted_headers s told told c
