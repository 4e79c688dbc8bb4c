use Rattle.std.proofs.Common.{◌≤◌, sym, subst}
use Rattle.std.specs.Prelude.{string_bytes}
use Rattle.flat_machine.specs.Legal.{IsNotDone}
use Rattle.qmp_codec.specs.Commands.{seen_command}
use Rattle.world_changes.proofs.ChangesHandled.{few_drives}
use Rattle.world_parts.specs.Face.{WorldSeen, face_of, seen_state}
use Rattle.world_parts.specs.Progress.{Progress}
use Rattle.world_parts.specs.Saying.{given_line}
use Rattle.blk_world.proofs.JobStarts.{begun_answered, begun_aside, begun_few, begun_fresh, begun_goes, begun_spare, begun_whole, has_plan, late_answered, late_goes, late_whole, planned, refused_answered, refused_goes, refused_whole, scene_back}
use Rattle.blk_world.proofs.world.World.put_start.Goals as goal

pub unreachable-requires : goal.unreachable-requires
unreachable-requires g c =
    has_plan (seen_command c.args.command) c.requires.is c.in_default.ensures

pub carry_start-requires-clause-command : goal.carry_start-requires-clause-command
carry_start-requires-clause-command g c =
    let is = planned (seen_command c.args.command) c.in-Some.plan c.in-Some.ensures in
    (is.command, is.is, is.plan_is)

pub carry_start-requires-clause-few : goal.carry_start-requires-clause-few
carry_start-requires-clause-few g c =
    few_drives c.self.inside.names.table c.self.inside.nodes c.self.invariant.coherent.alike c.edges.ensures.joined

pub returns-in_err-started-clause-back : goal.returns-in_err-started-clause-back
returns-in_err-started-clause-back g c =
    let w : WorldSeen = face_of c.self.inside.store c.self.inside.first_faults c.self.inside.nodes c.self.inside.names.table c.self.inside.progress c.self.inside.drained c.self.inside.bitmaps c.self.inside.works in
    rw (← c.self.view_is)
    (scene_back c.from_residual.result w c.carry_start.new.names.table c.carry_start.new.nodes c.carry_start.new.drained (seen_command c.args.command) c.in_err-started.ensures.back)

pub invariant_of-self-in-Refused : goal.invariant_of-self-in-Refused
invariant_of-self-in-Refused g c =
    let w : WorldSeen = face_of c.self.inside.store c.self.inside.first_faults c.self.inside.nodes c.self.inside.names.table c.self.inside.progress c.self.inside.drained c.self.inside.bitmaps c.self.inside.works in
    refused_whole w (given_line c.args.line c.args.given.now) (seen_command c.args.command) c.requires.read c.self.invariant c.edges.ensures.joined c.edges.ensures.disks
    c.carry_start.new.names.table c.carry_start.new.nodes c.carry_start.new.drained c.edges-2.ensures.joined c.in-Some.plan c.in-Some.ensures c.in-Refused.text
    (rw c.in-Refused.is at c.in_ok-started.ensures.ok)

pub invariant_of-self-in-Later-1 : goal.invariant_of-self-in-Later-1
invariant_of-self-in-Later-1 g c =
    let w : WorldSeen = face_of c.self.inside.store c.self.inside.first_faults c.self.inside.nodes c.self.inside.names.table c.self.inside.progress c.self.inside.drained c.self.inside.bitmaps c.self.inside.works in
    late_whole w (given_line c.args.line c.args.given.now) (seen_command c.args.command) c.requires.read c.self.invariant c.edges.ensures.joined c.edges.ensures.disks
    c.carry_start.new.names.table c.carry_start.new.nodes c.carry_start.new.drained c.edges-2.ensures.joined c.in-Some.plan c.in-Some.ensures c.in-Later.guest
    c.in-Later.request (rw c.in-Later.is at c.in_ok-started.ensures.ok)

pub begin-requires-clause-spare : goal.begin-requires-clause-spare
begin-requires-clause-spare g c =
    let w : WorldSeen = face_of c.self.inside.store c.self.inside.first_faults c.self.inside.nodes c.self.inside.names.table c.self.inside.progress c.self.inside.drained c.self.inside.bitmaps c.self.inside.works in
    begun_spare w (given_line c.args.line c.args.given.now) (seen_command c.args.command) c.requires.read c.self.invariant c.edges.ensures.joined c.edges.ensures.disks
    c.carry_start.new.names.table c.carry_start.new.nodes c.carry_start.new.drained c.edges-2.ensures.joined c.in-Some.plan c.in-Some.ensures c.in-Begun.text
    c.in-Begun.new (rw c.in-Begun.is at c.in_ok-started.ensures.ok)

pub begin-requires-clause-few : goal.begin-requires-clause-few
begin-requires-clause-few g c =
    let w : WorldSeen = face_of c.self.inside.store c.self.inside.first_faults c.self.inside.nodes c.self.inside.names.table c.self.inside.progress c.self.inside.drained c.self.inside.bitmaps c.self.inside.works in
    begun_few w (given_line c.args.line c.args.given.now) (seen_command c.args.command) c.requires.read c.self.invariant c.edges.ensures.joined c.edges.ensures.disks
    c.carry_start.new.names.table c.carry_start.new.nodes c.carry_start.new.drained c.edges-2.ensures.joined c.in-Some.plan c.in-Some.ensures c.in-Begun.text
    c.in-Begun.new (rw c.in-Begun.is at c.in_ok-started.ensures.ok)

pub begin-requires-clause-unmet : goal.begin-requires-clause-unmet
begin-requires-clause-unmet g c =
    let w : WorldSeen = face_of c.self.inside.store c.self.inside.first_faults c.self.inside.nodes c.self.inside.names.table c.self.inside.progress c.self.inside.drained c.self.inside.bitmaps c.self.inside.works in
    begun_fresh w (given_line c.args.line c.args.given.now) (seen_command c.args.command) c.requires.read c.self.invariant c.edges.ensures.joined c.edges.ensures.disks
    c.carry_start.new.names.table c.carry_start.new.nodes c.carry_start.new.drained c.edges-2.ensures.joined c.in-Some.plan c.in-Some.ensures c.in-Begun.text
    c.in-Begun.new (rw c.in-Begun.is at c.in_ok-started.ensures.ok)

pub begin-requires-clause-aside : goal.begin-requires-clause-aside
begin-requires-clause-aside g c =
    let w : WorldSeen = face_of c.self.inside.store c.self.inside.first_faults c.self.inside.nodes c.self.inside.names.table c.self.inside.progress c.self.inside.drained c.self.inside.bitmaps c.self.inside.works in
    subst (λ (p : Progress). p.aside ≤ 30) (sym c.reply.ensures)
    (begun_aside w (given_line c.args.line c.args.given.now) (seen_command c.args.command) c.requires.read c.self.invariant c.edges.ensures.joined c.edges.ensures.disks
    c.carry_start.new.names.table c.carry_start.new.nodes c.carry_start.new.drained c.edges-2.ensures.joined c.in-Some.plan c.in-Some.ensures c.in-Begun.text
    c.in-Begun.new (rw c.in-Begun.is at c.in_ok-started.ensures.ok))

pub invariant_of-self-in-Begun : goal.invariant_of-self-in-Begun
invariant_of-self-in-Begun g c =
    let w : WorldSeen = face_of c.self.inside.store c.self.inside.first_faults c.self.inside.nodes c.self.inside.names.table c.self.inside.progress c.self.inside.drained c.self.inside.bitmaps c.self.inside.works in
    begun_whole w (given_line c.args.line c.args.given.now) (seen_command c.args.command) c.requires.read c.self.invariant c.edges.ensures.joined c.edges.ensures.disks
    c.carry_start.new.names.table c.carry_start.new.nodes c.carry_start.new.drained c.edges-2.ensures.joined c.in-Some.plan c.in-Some.ensures c.in-Begun.text
    c.in-Begun.new (rw c.in-Begun.is at c.in_ok-started.ensures.ok) c.law.ensures (string_bytes c.args.copy) c.requires.copy c.reply.new.self c.reply.ensures
    c.lift.new.self c.lift.ensures c.begin.new.bitmaps c.begin.ensures.bitmaps c.begin.new.jobs c.begin.ensures.works c.begin.new.progress c.begin.ensures.progress

pub returns-in-Refused-clause-done : goal.returns-in-Refused-clause-done
returns-in-Refused-clause-done g c =
    let w : WorldSeen = face_of c.self.inside.store c.self.inside.first_faults c.self.inside.nodes c.self.inside.names.table c.self.inside.progress c.self.inside.drained c.self.inside.bitmaps c.self.inside.works in
    rw (← c.self.view_is)
    (refused_answered w (given_line c.args.line c.args.given.now) (seen_command c.args.command) c.requires.read c.self.invariant c.edges.ensures.joined c.edges.ensures.disks
    c.carry_start.new.names.table c.carry_start.new.nodes c.carry_start.new.drained c.edges-2.ensures.joined c.in-Some.plan c.in-Some.ensures c.in-Refused.text
    (rw c.in-Refused.is at c.in_ok-started.ensures.ok) (string_bytes c.args.copy) c.requires.copy c.note_reply.new.self c.note_reply.ensures)

pub returns-in-Refused-clause-comes : goal.returns-in-Refused-clause-comes
returns-in-Refused-clause-comes g c =
    let w : WorldSeen = face_of c.self.inside.store c.self.inside.first_faults c.self.inside.nodes c.self.inside.names.table c.self.inside.progress c.self.inside.drained c.self.inside.bitmaps c.self.inside.works in
    let idle : IsNotDone (seen_state w) 0 = subst (λ (x : WorldSeen). IsNotDone (seen_state x) 0) (sym c.self.view_is) c.requires.open in
    rw (← c.self.view_is)
    (refused_goes w (given_line c.args.line c.args.given.now) (seen_command c.args.command) c.requires.read c.self.invariant c.edges.ensures.joined c.edges.ensures.disks
    c.carry_start.new.names.table c.carry_start.new.nodes c.carry_start.new.drained c.edges-2.ensures.joined c.in-Some.plan c.in-Some.ensures c.in-Refused.text
    (rw c.in-Refused.is at c.in_ok-started.ensures.ok) (string_bytes c.args.copy) c.requires.copy c.note_reply.new.self c.note_reply.ensures idle)

pub returns-in-Later-clause-done : goal.returns-in-Later-clause-done
returns-in-Later-clause-done g c =
    let w : WorldSeen = face_of c.self.inside.store c.self.inside.first_faults c.self.inside.nodes c.self.inside.names.table c.self.inside.progress c.self.inside.drained c.self.inside.bitmaps c.self.inside.works in
    rw (← c.self.view_is)
    (late_answered w (given_line c.args.line c.args.given.now) (seen_command c.args.command) c.requires.read c.self.invariant c.edges.ensures.joined c.edges.ensures.disks
    c.carry_start.new.names.table c.carry_start.new.nodes c.carry_start.new.drained c.edges-2.ensures.joined c.in-Some.plan c.in-Some.ensures c.in-Later.guest
    c.in-Later.request (rw c.in-Later.is at c.in_ok-started.ensures.ok))

pub returns-in-Later-clause-comes : goal.returns-in-Later-clause-comes
returns-in-Later-clause-comes g c =
    let w : WorldSeen = face_of c.self.inside.store c.self.inside.first_faults c.self.inside.nodes c.self.inside.names.table c.self.inside.progress c.self.inside.drained c.self.inside.bitmaps c.self.inside.works in
    rw (← c.self.view_is)
    (late_goes w (given_line c.args.line c.args.given.now) (seen_command c.args.command) c.requires.read c.self.invariant c.edges.ensures.joined c.edges.ensures.disks
    c.carry_start.new.names.table c.carry_start.new.nodes c.carry_start.new.drained c.edges-2.ensures.joined c.in-Some.plan c.in-Some.ensures c.in-Later.guest
    c.in-Later.request (rw c.in-Later.is at c.in_ok-started.ensures.ok))

pub returns-in-Begun-clause-done : goal.returns-in-Begun-clause-done
returns-in-Begun-clause-done g c =
    let w : WorldSeen = face_of c.self.inside.store c.self.inside.first_faults c.self.inside.nodes c.self.inside.names.table c.self.inside.progress c.self.inside.drained c.self.inside.bitmaps c.self.inside.works in
    rw (← c.self.view_is)
    (begun_answered w (given_line c.args.line c.args.given.now) (seen_command c.args.command) c.requires.read c.self.invariant c.edges.ensures.joined c.edges.ensures.disks
    c.carry_start.new.names.table c.carry_start.new.nodes c.carry_start.new.drained c.edges-2.ensures.joined c.in-Some.plan c.in-Some.ensures c.in-Begun.text
    c.in-Begun.new (rw c.in-Begun.is at c.in_ok-started.ensures.ok) c.law.ensures (string_bytes c.args.copy) c.requires.copy c.reply.new.self c.reply.ensures
    c.lift.new.self c.lift.ensures c.begin.new.bitmaps c.begin.ensures.bitmaps c.begin.new.jobs c.begin.ensures.works c.begin.new.progress c.begin.ensures.progress)

pub returns-in-Begun-clause-comes : goal.returns-in-Begun-clause-comes
returns-in-Begun-clause-comes g c =
    let w : WorldSeen = face_of c.self.inside.store c.self.inside.first_faults c.self.inside.nodes c.self.inside.names.table c.self.inside.progress c.self.inside.drained c.self.inside.bitmaps c.self.inside.works in
    let idle : IsNotDone (seen_state w) 0 = subst (λ (x : WorldSeen). IsNotDone (seen_state x) 0) (sym c.self.view_is) c.requires.open in
    rw (← c.self.view_is)
    (begun_goes w (given_line c.args.line c.args.given.now) (seen_command c.args.command) c.requires.read c.self.invariant c.edges.ensures.joined c.edges.ensures.disks
    c.carry_start.new.names.table c.carry_start.new.nodes c.carry_start.new.drained c.edges-2.ensures.joined c.in-Some.plan c.in-Some.ensures c.in-Begun.text
    c.in-Begun.new (rw c.in-Begun.is at c.in_ok-started.ensures.ok) c.law.ensures (string_bytes c.args.copy) c.requires.copy c.reply.new.self c.reply.ensures
    c.lift.new.self c.lift.ensures c.begin.new.bitmaps c.begin.ensures.bitmaps c.begin.new.jobs c.begin.ensures.works c.begin.new.progress c.begin.ensures.progress idle)
