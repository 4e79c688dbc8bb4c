use Rattle.std.proofs.Common.{sym}
use Rattle.blk_graph.proofs.StillLemmas.{refreshed-fixed}
use Rattle.blk_graph.proofs.graph.Graph.list.Goals as goal

pub returns-clause-still : goal.returns-clause-still
returns-clause-still c =
    rw (sym c.self.view_is) (refreshed-fixed c.self.inside.kinds c.self.inside.edges c.self.invariant.sound.just.refreshed)
