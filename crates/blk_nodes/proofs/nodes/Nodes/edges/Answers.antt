use Rattle.std.proofs.Common.{sym}
use Rattle.blk_nodes.specs.Joined.{IsJoined}
use Rattle.blk_nodes.proofs.Unfolding.{unfolds}
use Rattle.blk_nodes.proofs.nodes.Nodes.edges.Goals as goal

pub returns-clause-joined : goal.returns-clause-joined
returns-clause-joined g c = rw (sym c.self.view_is) c.self.invariant

pub returns-clause-disks : goal.returns-clause-disks
returns-clause-disks g c =
    let joined : IsJoined c.args.self.now = rw (sym c.self.view_is) c.self.invariant in unfolds c.args.self.now joined
