use Rattle.chain_copies.proofs.CommitsTurns.{put_then}
use Rattle.chain_copies.proofs.commits.commits_go_on.Goals as goal

pub returns : goal.returns
returns c = put_then
