use Rattle.std.proofs.Common.{◌≡◌, ℕ, ◌/◌, Some, None, sym, ◌∙◌, subst}
use Rattle.blk_history.specs.Fold.{With}
use Rattle.flat_machine.specs.State.{drive_of}
use Rattle.world_jobs.specs.Guarding.{CanGuard}
use Rattle.world_parts.specs.Face.{WorldSeen, face_of}
use Rattle.world_parts.specs.Progress.{HasNext, flight_at}
use Rattle.world_parts.proofs.CountLemmas.{there}
use Rattle.world_pieces.proofs.PieceCalls.{drive_there}
use Rattle.blk_world.proofs.JobGuards.{IsGuardedThen, guarded_piece, guards_next, may_guard_written, then_by}
use Rattle.blk_world.proofs.world.World.guard_piece.Goals as goal

pub unreachable-requires : goal.unreachable-requires
unreachable-requires g c =
    let next = rw (sym c.self.view_is) at c.requires in
    let none : drive_of c.self.inside.names.table c.args.guest ≡ None = sym c.drive.ensures ∙ c.in_default.is in
    drive_there c.self.inside.names.table c.self.inside.nodes c.self.inside.progress c.self.inside.store.opened c.self.invariant.coherent c.args.guest next none

pub guard_written-requires : goal.guard_written-requires
guard_written-requires g c =
    let w : WorldSeen = face_of c.self.inside.store c.self.inside.first_faults c.self.inside.nodes c.self.inside.names.table c.self.inside.progress c.self.inside.drained c.self.inside.bitmaps c.self.inside.works in
    let next : With (flight_at w.progress.guests c.args.guest) HasNext = rw (sym c.self.view_is) at c.requires in
    let flight = there (flight_at w.progress.guests c.args.guest) HasNext next in
    let on : drive_of w.table c.args.guest ≡ Some c.in-Some.drive = sym c.drive.ensures ∙ c.in-Some.is in
    record {
      can = λ part some.
          subst (λ (node : ℕ). CanGuard w.table w.nodes w.works node (part.start / 65536)) (sym c.disk_node-node.ensures)
          (may_guard_written w c.args.guest flight.at c.in-Some.drive on flight.is flight.holds c.self.invariant c.edges.ensures.joined c.next_written-written.result
          (c.next_written-written.ensures flight.at flight.is) part some);
    }

pub invariant_of-self : goal.invariant_of-self
invariant_of-self g c =
    let w : WorldSeen = face_of c.self.inside.store c.self.inside.first_faults c.self.inside.nodes c.self.inside.names.table c.self.inside.progress c.self.inside.drained c.self.inside.bitmaps c.self.inside.works in
    let next : With (flight_at w.progress.guests c.args.guest) HasNext = rw (sym c.self.view_is) at c.requires in
    let flight = there (flight_at w.progress.guests c.args.guest) HasNext next in
    let on : drive_of w.table c.args.guest ≡ Some c.in-Some.drive = sym c.drive.ensures ∙ c.in-Some.is in
    let did : IsGuardedThen w (record w { nodes = c.guard_written.new.nodes; works = c.guard_written.new.works }) flight.at c.in-Some.drive
    = then_by w c.args.guest flight.at c.in-Some.drive on flight.is flight.holds c.self.invariant c.edges.ensures.joined c.law.ensures c.guard_written.new.nodes
    c.guard_written.new.works c.edges-2.ensures.joined c.guard_written.ensures.told c.next_written-written.result
    (c.next_written-written.ensures flight.at flight.is) (rw c.disk_node-node.ensures at c.guard_written.ensures.guards)
    (rw c.disk_node-node.ensures at c.guard_written.ensures.small) in
    did.whole

pub returns-clause-guards : goal.returns-clause-guards
returns-clause-guards g c =
    let w : WorldSeen = face_of c.self.inside.store c.self.inside.first_faults c.self.inside.nodes c.self.inside.names.table c.self.inside.progress c.self.inside.drained c.self.inside.bitmaps c.self.inside.works in
    let next : With (flight_at w.progress.guests c.args.guest) HasNext = rw (sym c.self.view_is) at c.requires in
    let flight = there (flight_at w.progress.guests c.args.guest) HasNext next in
    let on : drive_of w.table c.args.guest ≡ Some c.in-Some.drive = sym c.drive.ensures ∙ c.in-Some.is in
    let did : IsGuardedThen w (record w { nodes = c.guard_written.new.nodes; works = c.guard_written.new.works }) flight.at c.in-Some.drive
    = then_by w c.args.guest flight.at c.in-Some.drive on flight.is flight.holds c.self.invariant c.edges.ensures.joined c.law.ensures c.guard_written.new.nodes
    c.guard_written.new.works c.edges-2.ensures.joined c.guard_written.ensures.told c.next_written-written.result
    (c.next_written-written.ensures flight.at flight.is) (rw c.disk_node-node.ensures at c.guard_written.ensures.guards)
    (rw c.disk_node-node.ensures at c.guard_written.ensures.small) in
    rw (← c.self.view_is)
    (guards_next w c.args.guest flight.at c.in-Some.drive on flight.is flight.holds c.self.invariant c.edges.ensures.joined
    (record w { nodes = c.guard_written.new.nodes; works = c.guard_written.new.works }) did)

pub returns-clause-guarded : goal.returns-clause-guarded
returns-clause-guarded g c =
    let w : WorldSeen = face_of c.self.inside.store c.self.inside.first_faults c.self.inside.nodes c.self.inside.names.table c.self.inside.progress c.self.inside.drained c.self.inside.bitmaps c.self.inside.works in
    let next : With (flight_at w.progress.guests c.args.guest) HasNext = rw (sym c.self.view_is) at c.requires in
    let flight = there (flight_at w.progress.guests c.args.guest) HasNext next in
    let on : drive_of w.table c.args.guest ≡ Some c.in-Some.drive = sym c.drive.ensures ∙ c.in-Some.is in
    let did : IsGuardedThen w (record w { nodes = c.guard_written.new.nodes; works = c.guard_written.new.works }) flight.at c.in-Some.drive
    = then_by w c.args.guest flight.at c.in-Some.drive on flight.is flight.holds c.self.invariant c.edges.ensures.joined c.law.ensures c.guard_written.new.nodes
    c.guard_written.new.works c.edges-2.ensures.joined c.guard_written.ensures.told c.next_written-written.result
    (c.next_written-written.ensures flight.at flight.is) (rw c.disk_node-node.ensures at c.guard_written.ensures.guards)
    (rw c.disk_node-node.ensures at c.guard_written.ensures.small) in
    guarded_piece w c.args.guest flight.at c.in-Some.drive on flight.is flight.holds c.self.invariant c.edges.ensures.joined c.guard_written.new.nodes c.guard_written.new.works did

pub returns-clause-comes : goal.returns-clause-comes
returns-clause-comes g c =
    let w : WorldSeen = face_of c.self.inside.store c.self.inside.first_faults c.self.inside.nodes c.self.inside.names.table c.self.inside.progress c.self.inside.drained c.self.inside.bitmaps c.self.inside.works in
    let next : With (flight_at w.progress.guests c.args.guest) HasNext = rw (sym c.self.view_is) at c.requires in
    let flight = there (flight_at w.progress.guests c.args.guest) HasNext next in
    let on : drive_of w.table c.args.guest ≡ Some c.in-Some.drive = sym c.drive.ensures ∙ c.in-Some.is in
    let did : IsGuardedThen w (record w { nodes = c.guard_written.new.nodes; works = c.guard_written.new.works }) flight.at c.in-Some.drive
    = then_by w c.args.guest flight.at c.in-Some.drive on flight.is flight.holds c.self.invariant c.edges.ensures.joined c.law.ensures c.guard_written.new.nodes
    c.guard_written.new.works c.edges-2.ensures.joined c.guard_written.ensures.told c.next_written-written.result
    (c.next_written-written.ensures flight.at flight.is) (rw c.disk_node-node.ensures at c.guard_written.ensures.guards)
    (rw c.disk_node-node.ensures at c.guard_written.ensures.small) in
    rw (← c.self.view_is) did.comes
