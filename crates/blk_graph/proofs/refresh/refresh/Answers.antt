use Rattle.std.proofs.Common.{arith}
use Rattle.blk_graph.proofs.StillLemmas.{refreshed_turned, refreshed_all}
use Rattle.blk_graph.proofs.refresh.refresh.Goals as goal

pub returns-then-turn-clause-edges : goal.returns-then-turn-clause-edges
returns-then-turn-clause-edges c =
    refreshed_turned c.args.kinds.now c.args.edges.now.items c.loop.edges.items c.turn.new.edges.items c.loop.counter
    (omega arith) c.loop.invariant.so_far c.turn.ensures.edges (c.turn.ensures.same c.if-turn.true)

pub returns-clause-edges : goal.returns-clause-edges
returns-clause-edges c =
    refreshed_all c.args.kinds.now c.args.edges.now.items c.loop.edges.items c.loop.counter
    (omega arith) (omega arith) c.loop.invariant.so_far
