use Rattle.std.proofs.Common.{subst}
use Rattle.blk_nodes.specs.Joined.{IsJoined}
use Rattle.world_parts.specs.Coherent.{IsWholeWorld}
use Rattle.world_parts.specs.Face.{WorldSeen}
use Rattle.world_parts.proofs.SoundImages.{images-sound}
use Rattle.world_parts.proofs.WholeDisks.{row_sizes}
use Rattle.blk_world.proofs.world.World.images_are_sound.Goals as goal

pub returns-clause-sound : goal.returns-clause-sound
returns-clause-sound g c = λ told.
    let joined : IsJoined c.args.self.now.nodes = subst (λ (w : WorldSeen). IsJoined w.nodes) c.self.view_is c.edges.ensures.joined in
    let whole : IsWholeWorld c.args.self.now = subst IsWholeWorld c.self.view_is c.self.invariant in
    images-sound c.args.self.now joined whole.coherent (whole.tell told)

pub returns-clause-kept : goal.returns-clause-kept
returns-clause-kept g c =
    let whole : IsWholeWorld c.args.self.now = subst IsWholeWorld c.self.view_is c.self.invariant in
    whole.jobs

pub returns-clause-sizes : goal.returns-clause-sizes
returns-clause-sizes g c = λ told.
    let joined : IsJoined c.args.self.now.nodes = subst (λ (w : WorldSeen). IsJoined w.nodes) c.self.view_is c.edges.ensures.joined in
    let whole : IsWholeWorld c.args.self.now = subst IsWholeWorld c.self.view_is c.self.invariant in
    row_sizes c.args.self.now.table c.args.self.now.nodes whole.coherent.alike joined (whole.tell told)
