use Rattle.std.proofs.Common.{sym}
use Rattle.blk_graph.proofs.RuleLemmas.{None-from_IsCalm}
use Rattle.blk_graph.proofs.rule.conflict_unless.Goals as goal

pub returns-then-calm : goal.returns-then-calm
returns-then-calm c = sym (None-from_IsCalm c.args.edges.now c.args.node c.args.common c.requires.shares (c.requires.calm c.if-calm.true))
