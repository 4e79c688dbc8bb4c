use Rattle.std.proofs.Common.{subst}
use Rattle.blk_nodes.specs.Joined.{IsJoined}
use Rattle.world_parts.specs.Coherent.{IsWholeWorld}
use Rattle.world_parts.specs.Face.{WorldSeen}
use Rattle.blk_world.proofs.world.World.law.Goals as goal

pub returns-clause-whole : goal.returns-clause-whole
returns-clause-whole g c = subst IsWholeWorld c.self.view_is c.self.invariant

pub returns-clause-joined : goal.returns-clause-joined
returns-clause-joined g c = subst (λ (w : WorldSeen). IsJoined w.nodes) c.self.view_is c.edges.ensures.joined
