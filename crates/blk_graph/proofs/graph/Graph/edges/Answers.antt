use Rattle.std.proofs.Common.{sym, ap, length, arith}
use Rattle.blk_graph.specs.Rule.{KeepsPermissions}
use Rattle.blk_graph.proofs.GraphLemmas.{PathsAreShort-from_IsSound}
use Rattle.blk_graph.proofs.RuleLemmas.{GuestsWriteAlone-from_rule}
use Rattle.blk_graph.proofs.graph.Graph.edges.Goals as goal

pub returns-clause-paths : goal.returns-clause-paths
returns-clause-paths c = PathsAreShort-from_IsSound c.args.self.now (rw (sym c.self.view_is) c.self.invariant.sound)

pub returns-clause-guests : goal.returns-clause-guests
returns-clause-guests c =
    let rule : KeepsPermissions c.args.self.now.edges = rw (sym c.self.view_is) c.self.invariant.sound.just.rule in
    GuestsWriteAlone-from_rule c.args.self.now.edges rule

pub returns-clause-few : goal.returns-clause-few
returns-clause-few c = omega (arith, c.as_slice.ensures.few, ap length c.as_slice.ensures.edges)
