use Rattle.std.proofs.Common.{arith}
use Rattle.blk_graph.proofs.ids.has_id.Goals as goal

pub returns : goal.returns
returns c = (λ e. absurd cc, λ h. absurd (c.loop-other.invariant h.0 c.args.node (omega (arith, h.1)) h.2))
