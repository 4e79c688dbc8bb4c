use Rattle.std.proofs.Common.{sym}
use Rattle.blk_graph.proofs.ListedLemmas.{length-listed}
use Rattle.blk_graph.proofs.list.EdgeList.as_slice.Goals as goal

pub returns-clause-listed : goal.returns-clause-listed
returns-clause-listed c = rw (sym c.self.view_is) c.self.invariant.1

pub returns-clause-few : goal.returns-clause-few
returns-clause-few c = rw (sym c.self.view_is) (length-listed c.self.inside.edges.items c.self.invariant.1)
