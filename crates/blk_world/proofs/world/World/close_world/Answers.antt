use Rattle.std.proofs.Common.{List, sym, ◌∙◌, ap, subst}
use Rattle.blk_nodes.specs.Contents.{Unfolds}
use Rattle.blk_nodes.specs.Joined.{IsJoined}
use Rattle.blk_nodes.specs.Nodes.{DeviceSeen}
use Rattle.world_files.specs.Closing.{AreBack, EndsWorld}
use Rattle.world_parts.specs.Coherent.{AreHeld, IsWholeWorld}
use Rattle.world_parts.specs.Face.{WorldSeen}
use Rattle.world_parts.specs.Steps.{StoreSeen, seen_store, seen_in_run}
use Rattle.world_parts.specs.Stores.{StoreInRun}
use Rattle.world_files.proofs.CloseLemmas.{closed-by, back-held, none-out, none-behind, flushed-then}
use Rattle.world_files.proofs.CloseCounts.{given-back, faults-kept, room-kept}
use Rattle.world_files.proofs.CloseFiles.{held-then, told-then, nodes-flushed}
use Rattle.world_files.proofs.CloseDisks.{all-disks}
use Rattle.world_parts.proofs.SoundImages.{all-sound, images-sound}
use Rattle.blk_world.proofs.world.World.close_world.Goals as goal

pub returns-clause-closed : goal.returns-clause-closed
returns-clause-closed g c =
    let store : StoreInRun = c.give_all_back-fault.new.store in
    let whole : StoreSeen = seen_store (g.S.Store.files c.into_store.result) (g.S.Store.opened c.into_store.result) (g.S.Store.room c.into_store.result) (g.S.Store.faults c.into_store.result) (g.S.Store.failed_call c.into_store.result) in
    let end = c.into_store.ensures in
    let back = subst (λ (ds : List DeviceSeen). AreBack c.self.inside.names.table ds (seen_in_run c.self.inside.store) (seen_in_run store) c.give_all_back-fault.result)
    c.into_devices-left.ensures c.give_all_back-fault.ensures.back in
    rw (← c.self.view_is) (closed-by _ store whole c.give_all_back-fault.result back
    (given-back _ (seen_in_run store) c.give_all_back-fault.result back c.self.invariant.coherent.out) c.give_all_back-fault.ensures.earlier end.files end.opened end.room end.faults end.call)

pub returns-clause-faults : goal.returns-clause-faults
returns-clause-faults g c =
    c.into_store.ensures.faults
    ∙ faults-kept c.self.inside.names.table _ _ _ c.give_all_back-fault.result c.give_all_back-fault.ensures.back
    ∙ ap (λ (w : WorldSeen). w.faults) c.self.view_is

pub returns-clause-room : goal.returns-clause-room
returns-clause-room g c =
    c.into_store.ensures.room
    ∙ room-kept c.self.inside.names.table _ _ _ c.give_all_back-fault.result c.give_all_back-fault.ensures.back
    ∙ ap (λ (w : WorldSeen). w.room) c.self.view_is

pub returns-clause-none_out : goal.returns-clause-none_out
returns-clause-none_out g c =
    let store : StoreInRun = c.give_all_back-fault.new.store in
    none-behind store.earlier store.opened (g.S.Store.opened c.into_store.result) c.into_store.ensures.opened c.into_store.ensures.earlier
    (none-out c.self.inside.names.table store.opened
    (back-held c.self.inside.names.table _ _ _ _ c.give_all_back-fault.ensures.back
    (subst (λ (ds : List DeviceSeen). AreHeld c.self.inside.names.table ds c.self.inside.store.opened) (sym c.into_devices-left.ensures) c.self.invariant.coherent.out)))

pub returns-clause-held : goal.returns-clause-held
returns-clause-held g c = λ told name.
    let after : StoreSeen = seen_store (g.S.Store.files c.into_store.result) (g.S.Store.opened c.into_store.result) (g.S.Store.room c.into_store.result) (g.S.Store.faults c.into_store.result) (g.S.Store.failed_call c.into_store.result) in
    let closed : EndsWorld c.args.self after c.give_all_back-fault.result = returns-clause-closed g c in
    let joined : IsJoined c.args.self.nodes = subst (λ (w : WorldSeen). IsJoined w.nodes) c.self.view_is c.edges.ensures.joined in
    let whole : IsWholeWorld c.args.self = subst IsWholeWorld c.self.view_is c.self.invariant in
    held-then c.args.self after c.give_all_back-fault.result closed joined whole.coherent told (whole.tell told) name

pub returns-clause-flushed : goal.returns-clause-flushed
returns-clause-flushed g c = λ told none.
    let after : StoreSeen = seen_store (g.S.Store.files c.into_store.result) (g.S.Store.opened c.into_store.result) (g.S.Store.room c.into_store.result) (g.S.Store.faults c.into_store.result) (g.S.Store.failed_call c.into_store.result) in
    let closed : EndsWorld c.args.self after c.give_all_back-fault.result = returns-clause-closed g c in
    let whole : IsWholeWorld c.args.self = subst IsWholeWorld c.self.view_is c.self.invariant in
    flushed-then c.args.self after c.give_all_back-fault.result closed whole.coherent.out told (whole.tell told) none

pub returns-clause-named : goal.returns-clause-named
returns-clause-named g c = λ told none.
    let joined : IsJoined c.args.self.nodes = subst (λ (w : WorldSeen). IsJoined w.nodes) c.self.view_is c.edges.ensures.joined in
    let whole : IsWholeWorld c.args.self = subst IsWholeWorld c.self.view_is c.self.invariant in
    nodes-flushed c.args.self (g.S.Store.files c.into_store.result) joined whole.coherent (returns-clause-flushed g c told none)

pub returns-clause-disks : goal.returns-clause-disks
returns-clause-disks g c = λ told s same agrees.
    let joined : IsJoined c.args.self.nodes = subst (λ (w : WorldSeen). IsJoined w.nodes) c.self.view_is c.edges.ensures.joined in
    let whole : IsWholeWorld c.args.self = subst IsWholeWorld c.self.view_is c.self.invariant in
    let after : StoreSeen = seen_store (g.S.Store.files c.into_store.result) (g.S.Store.opened c.into_store.result) (g.S.Store.room c.into_store.result) (g.S.Store.faults c.into_store.result) (g.S.Store.failed_call c.into_store.result) in
    let closed : EndsWorld c.args.self after c.give_all_back-fault.result = returns-clause-closed g c in
    all-disks c.args.self (g.S.Store.files c.into_store.result) joined (subst (λ (w : WorldSeen). Unfolds w.nodes) c.self.view_is c.edges.ensures.disks) whole.coherent whole.jobs.stand
    (told-then c.args.self after c.give_all_back-fault.result closed whole.coherent told (whole.tell told))
    (returns-clause-held g c told) s same agrees

pub returns-clause-sound : goal.returns-clause-sound
returns-clause-sound g c = λ told.
    let joined : IsJoined c.args.self.nodes = subst (λ (w : WorldSeen). IsJoined w.nodes) c.self.view_is c.edges.ensures.joined in
    let whole : IsWholeWorld c.args.self = subst IsWholeWorld c.self.view_is c.self.invariant in
    let after : StoreSeen = seen_store (g.S.Store.files c.into_store.result) (g.S.Store.opened c.into_store.result) (g.S.Store.room c.into_store.result) (g.S.Store.faults c.into_store.result) (g.S.Store.failed_call c.into_store.result) in
    let closed : EndsWorld c.args.self after c.give_all_back-fault.result = returns-clause-closed g c in
    all-sound c.args.self (g.S.Store.files c.into_store.result)
    (told-then c.args.self after c.give_all_back-fault.result closed whole.coherent told (whole.tell told))
    (returns-clause-held g c told) (images-sound c.args.self joined whole.coherent (whole.tell told))
