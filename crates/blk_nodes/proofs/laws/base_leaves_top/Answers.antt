use Rattle.blk_nodes.proofs.Commits.{commits}
use Rattle.blk_nodes.proofs.laws.base_leaves_top.Goals as goal

pub returns : goal.returns
returns c = commits
