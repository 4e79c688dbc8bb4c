use Rattle.std.proofs.Common.{◌≡◌, Some, None, sym, ◌∙◌, ap}
use Rattle.blk_history.specs.Machine.{Flight}
use Rattle.flat_machine.specs.State.{drive_of}
use Rattle.qmp_rules.specs.Table.{RunTable}
use Rattle.world_parts.specs.Face.{WorldSeen, face_of}
use Rattle.world_parts.specs.Piecing.{part_of}
use Rattle.world_pieces.specs.Pieces.{IsPieceMade, noted_after}
use Rattle.world_parts.specs.Progress.{flight_at}
use Rattle.world_pieces.proofs.PieceCalls.{can_next, drive_there, made_of, made_whole}
use Rattle.world_pieces.proofs.PieceTables.{eased_after}
use Rattle.world_parts.proofs.InStep.{with-at}
use Rattle.blk_world.proofs.PieceMarks.{marked_so}
use Rattle.blk_world.proofs.world.World.put_piece.Goals as goal

pub unreachable-requires : goal.unreachable-requires
unreachable-requires g c =
    let next = rw (sym c.self.view_is) at c.requires in
    let none : drive_of c.self.inside.names.table c.args.guest ≡ None = sym c.drive.ensures ∙ c.in_default.is in
    drive_there c.self.inside.names.table c.self.inside.nodes c.self.inside.progress c.self.inside.store.opened c.self.invariant.coherent c.args.guest next none

pub make_next-outcome-requires-clause-can : goal.make_next-outcome-requires-clause-can
make_next-outcome-requires-clause-can g c =
    let next = rw (sym c.self.view_is) at c.requires in
    let on : drive_of c.self.inside.names.table c.args.guest ≡ Some c.in-Some.drive = sym c.drive.ensures ∙ c.in-Some.is in
    rw c.disk_node-node.ensures
    (can_next c.self.inside.names.table c.self.inside.nodes c.self.inside.progress c.edges.ensures.joined c.self.inside.store.opened c.self.invariant.coherent c.args.guest
    c.in-Some.drive on next)

pub returns-clause-made : goal.returns-clause-made
returns-clause-made g c =
    let w : WorldSeen = face_of c.self.inside.store c.self.inside.first_faults c.self.inside.nodes c.self.inside.names.table c.self.inside.progress c.self.inside.drained c.self.inside.bitmaps c.self.inside.works in
    let on : drive_of w.table c.args.guest ≡ Some c.in-Some.drive = sym c.drive.ensures ∙ c.in-Some.is in
    rw (← c.self.view_is)
    (λ f flies.
    made_of w c.make_next-outcome.new.nodes c.note_write.new.names.table c.make_next-outcome.new.progress c.note_written.new.bitmaps c.note_again.new.works c.args.guest c.in-Some.drive
    c.disk_node-node.result f
    c.make_next-outcome.result c.flying.result.now on c.disk_node-node.ensures
    (with-at (flight_at c.self.inside.progress.guests c.args.guest) f (λ h. h.op ≡ c.flying.result.now) flies c.flying.ensures) c.note_write.ensures (c.make_next-outcome.ensures f flies)
    (c.note_written.ensures
    ∙ ap (λ written. noted_after c.make_next-outcome.result written c.in-Some.drive c.note_write.new.names.table c.self.inside.bitmaps) (c.next_written-written.ensures f flies))
    (c.note_again.ensures
    ∙ marked_so f.op c.make_next-outcome.result c.self.inside.names.table c.note_write.new.names.table c.disk_node-node.result (part_of f) c.self.inside.works c.next_written-written.result
    (c.next_written-written.ensures f flies)
    (ap (λ (t : RunTable). t.jobs) c.note_write.ensures ∙ (eased_after c.flying.result.now c.disk_node-node.result c.self.inside.names.table).jobs)))

pub invariant_of-self : goal.invariant_of-self
invariant_of-self g c =
    let w : WorldSeen = face_of c.self.inside.store c.self.inside.first_faults c.self.inside.nodes c.self.inside.names.table c.self.inside.progress c.self.inside.drained c.self.inside.bitmaps c.self.inside.works in
    let v : WorldSeen = record w {
      nodes = c.make_next-outcome.new.nodes;
      table = c.note_write.new.names.table;
      progress = c.make_next-outcome.new.progress;
      bitmaps = c.note_written.new.bitmaps;
      works = c.note_again.new.works;
    } in
    let next = rw (sym c.self.view_is) at c.requires in
    let made : (f : Flight) → flight_at w.progress.guests c.args.guest ≡ Some f → IsPieceMade w v c.args.guest f c.make_next-outcome.result =
    rw (sym c.self.view_is) at (returns-clause-made g c) in
    made_whole w v c.args.guest c.make_next-outcome.result next made c.edges.ensures.joined c.self.invariant c.edges-2.ensures.joined
