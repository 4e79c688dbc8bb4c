use Rattle.std.proofs.Common.{◌≡◌, Some, sym, subst}
use Rattle.qmp_rules.specs.Table.{job_in}
use Rattle.world_changes.proofs.ChangesHandled.{few_drives}
use Rattle.world_jobs.specs.Turning.{StaysAsTurn}
use Rattle.world_parts.specs.Face.{WorldSeen, face_of}
use Rattle.blk_world.proofs.JobTurns.{ended_so, ended_whole, ends_as, kind_is, left_whole, may_drain, may_end, may_get_ready, ready_so, ready_whole_then, stays, waits, work_there}
use Rattle.blk_world.proofs.world.World.put_turn.Goals as goal

pub turn-turn-requires-clause-there : goal.turn-turn-requires-clause-there
turn-turn-requires-clause-there g c =
    let w : WorldSeen = face_of c.self.inside.store c.self.inside.first_faults c.self.inside.nodes c.self.inside.names.table c.self.inside.progress c.self.inside.drained c.self.inside.bitmaps c.self.inside.works in
    let there : job_in w.table c.args.slot ≡ Some c.in-Some.row.now = sym c.in-Some.ensures in
    work_there w c.args.slot c.in-Some.row.now c.self.invariant c.edges.ensures.joined there

pub turn-turn-requires-clause-kind : goal.turn-turn-requires-clause-kind
turn-turn-requires-clause-kind g c =
    let w : WorldSeen = face_of c.self.inside.store c.self.inside.first_faults c.self.inside.nodes c.self.inside.names.table c.self.inside.progress c.self.inside.drained c.self.inside.bitmaps c.self.inside.works in
    let there : job_in w.table c.args.slot ≡ Some c.in-Some.row.now = sym c.in-Some.ensures in
    kind_is w c.args.slot c.in-Some.row.now c.self.invariant c.edges.ensures.joined there

pub drain_for-requires-clause-few : goal.drain_for-requires-clause-few
drain_for-requires-clause-few g c =
    few_drives c.self.inside.names.table c.self.inside.nodes c.self.invariant.coherent.alike c.edges.ensures.joined

pub drain_for-requires-clause-room : goal.drain_for-requires-clause-room
drain_for-requires-clause-room g c =
    let w : WorldSeen = face_of c.self.inside.store c.self.inside.first_faults c.self.inside.nodes c.self.inside.names.table c.self.inside.progress c.self.inside.drained c.self.inside.bitmaps c.self.inside.works in
    let there : job_in w.table c.args.slot ≡ Some c.in-Some.row.now = sym c.in-Some.ensures in
    may_drain w c.args.slot c.in-Some.row.now c.self.invariant c.edges.ensures.joined there

pub invariant_of-self : goal.invariant_of-self
invariant_of-self g c =
    let w : WorldSeen = face_of c.self.inside.store c.self.inside.first_faults c.self.inside.nodes c.self.inside.names.table c.self.inside.progress c.self.inside.drained c.self.inside.bitmaps c.self.inside.works in
    let there : job_in w.table c.args.slot ≡ Some c.in-Some.row.now = sym c.in-Some.ensures in
    left_whole w c.args.slot c.in-Some.row.now c.self.invariant c.edges.ensures.joined there c.all_done.result c.all_done.ensures c.turn-turn.result c.turn-turn.ensures
    c.drain_for.new.drained c.drain_for.ensures.held

pub returns-in-Some-drain_for-clause-turned : goal.returns-in-Some-drain_for-clause-turned
returns-in-Some-drain_for-clause-turned g c =
    let w : WorldSeen = face_of c.self.inside.store c.self.inside.first_faults c.self.inside.nodes c.self.inside.names.table c.self.inside.progress c.self.inside.drained c.self.inside.bitmaps c.self.inside.works in
    let there : job_in w.table c.args.slot ≡ Some c.in-Some.row.now = sym c.in-Some.ensures in
    rw (← c.self.view_is)
    (waits w c.args.slot c.in-Some.row.now c.self.invariant c.edges.ensures.joined there c.all_done.result c.all_done.ensures c.turn-turn.result c.turn-turn.ensures
    c.drain_for.new.drained c.drain_for.ensures.held
    c.drain_for.result c.drain_for.ensures.none c.drain_for.ensures.first c.in-Some-drain_for.way c.in-Some-drain_for.is)

pub invariant_of-self-in-Copy-1 : goal.invariant_of-self-in-Copy-1
invariant_of-self-in-Copy-1 g c =
    let w : WorldSeen = face_of c.self.inside.store c.self.inside.first_faults c.self.inside.nodes c.self.inside.names.table c.self.inside.progress c.self.inside.drained c.self.inside.bitmaps c.self.inside.works in
    let there : job_in w.table c.args.slot ≡ Some c.in-Some.row.now = sym c.in-Some.ensures in
    left_whole w c.args.slot c.in-Some.row.now c.self.invariant c.edges.ensures.joined there c.all_done.result c.all_done.ensures c.turn-turn.result c.turn-turn.ensures
    c.drain_for.new.drained c.drain_for.ensures.held

pub returns-in-Copy-clause-turned : goal.returns-in-Copy-clause-turned
returns-in-Copy-clause-turned g c =
    let w : WorldSeen = face_of c.self.inside.store c.self.inside.first_faults c.self.inside.nodes c.self.inside.names.table c.self.inside.progress c.self.inside.drained c.self.inside.bitmaps c.self.inside.works in
    let there : job_in w.table c.args.slot ≡ Some c.in-Some.row.now = sym c.in-Some.ensures in
    rw (← c.self.view_is)
    (subst (StaysAsTurn w (record w { drains = c.drain_for.new.drained }) c.args.slot) c.in-Copy.is
    (stays w c.args.slot c.in-Some.row.now c.self.invariant c.edges.ensures.joined there c.all_done.result c.all_done.ensures c.turn-turn.result c.turn-turn.ensures
    c.drain_for.new.drained c.drain_for.ensures.held
    c.drain_for.result c.drain_for.ensures.none c.drain_for.ensures.first c.in_default-drain_for.is))

pub invariant_of-self-in-Wait-1 : goal.invariant_of-self-in-Wait-1
invariant_of-self-in-Wait-1 g c =
    let w : WorldSeen = face_of c.self.inside.store c.self.inside.first_faults c.self.inside.nodes c.self.inside.names.table c.self.inside.progress c.self.inside.drained c.self.inside.bitmaps c.self.inside.works in
    let there : job_in w.table c.args.slot ≡ Some c.in-Some.row.now = sym c.in-Some.ensures in
    left_whole w c.args.slot c.in-Some.row.now c.self.invariant c.edges.ensures.joined there c.all_done.result c.all_done.ensures c.turn-turn.result c.turn-turn.ensures
    c.drain_for.new.drained c.drain_for.ensures.held

pub returns-in-Wait-clause-turned : goal.returns-in-Wait-clause-turned
returns-in-Wait-clause-turned g c =
    let w : WorldSeen = face_of c.self.inside.store c.self.inside.first_faults c.self.inside.nodes c.self.inside.names.table c.self.inside.progress c.self.inside.drained c.self.inside.bitmaps c.self.inside.works in
    let there : job_in w.table c.args.slot ≡ Some c.in-Some.row.now = sym c.in-Some.ensures in
    rw (← c.self.view_is)
    (subst (StaysAsTurn w (record w { drains = c.drain_for.new.drained }) c.args.slot) c.in-Wait.is
    (stays w c.args.slot c.in-Some.row.now c.self.invariant c.edges.ensures.joined there c.all_done.result c.all_done.ensures c.turn-turn.result c.turn-turn.ensures
    c.drain_for.new.drained c.drain_for.ensures.held
    c.drain_for.result c.drain_for.ensures.none c.drain_for.ensures.first c.in_default-drain_for.is))

pub get_ready-requires : goal.get_ready-requires
get_ready-requires g c =
    let w : WorldSeen = face_of c.self.inside.store c.self.inside.first_faults c.self.inside.nodes c.self.inside.names.table c.self.inside.progress c.self.inside.drained c.self.inside.bitmaps c.self.inside.works in
    let there : job_in w.table c.args.slot ≡ Some c.in-Some.row.now = sym c.in-Some.ensures in
    may_get_ready w c.args.slot c.in-Some.row.now c.self.invariant c.edges.ensures.joined there c.all_done.result c.all_done.ensures c.in-GetReady.ensures

pub invariant_of-self-in-GetReady-1 : goal.invariant_of-self-in-GetReady-1
invariant_of-self-in-GetReady-1 g c =
    let w : WorldSeen = face_of c.self.inside.store c.self.inside.first_faults c.self.inside.nodes c.self.inside.names.table c.self.inside.progress c.self.inside.drained c.self.inside.bitmaps c.self.inside.works in
    let there : job_in w.table c.args.slot ≡ Some c.in-Some.row.now = sym c.in-Some.ensures in
    ready_whole_then w c.args.slot c.in-Some.row.now c.self.invariant c.edges.ensures.joined there c.all_done.result c.all_done.ensures c.in-GetReady.ensures
    c.drain_for.new.drained (rw c.in-GetReady.is at c.drain_for.ensures.held) c.get_ready.new.names.table c.get_ready.ensures.table c.get_ready.new.progress
    c.get_ready.ensures.progress

pub returns-in-GetReady-clause-turned : goal.returns-in-GetReady-clause-turned
returns-in-GetReady-clause-turned g c =
    let w : WorldSeen = face_of c.self.inside.store c.self.inside.first_faults c.self.inside.nodes c.self.inside.names.table c.self.inside.progress c.self.inside.drained c.self.inside.bitmaps c.self.inside.works in
    let there : job_in w.table c.args.slot ≡ Some c.in-Some.row.now = sym c.in-Some.ensures in
    rw (← c.self.view_is)
    (ready_so w c.args.slot c.in-Some.row.now c.self.invariant c.edges.ensures.joined there c.all_done.result c.all_done.ensures c.in-GetReady.ensures
    c.drain_for.new.drained (rw c.in-GetReady.is at c.drain_for.ensures.held) c.get_ready.new.names.table c.get_ready.ensures.table c.get_ready.new.progress
    c.get_ready.ensures.progress)

pub end-requires : goal.end-requires
end-requires g c =
    let w : WorldSeen = face_of c.self.inside.store c.self.inside.first_faults c.self.inside.nodes c.self.inside.names.table c.self.inside.progress c.self.inside.drained c.self.inside.bitmaps c.self.inside.works in
    let there : job_in w.table c.args.slot ≡ Some c.in-Some.row.now = sym c.in-Some.ensures in
    record { can = may_end w c.args.slot c.in-Some.row.now c.self.invariant c.edges.ensures.joined there c.in-End.why }

pub invariant_of-self-in-End : goal.invariant_of-self-in-End
invariant_of-self-in-End g c =
    let w : WorldSeen = face_of c.self.inside.store c.self.inside.first_faults c.self.inside.nodes c.self.inside.names.table c.self.inside.progress c.self.inside.drained c.self.inside.bitmaps c.self.inside.works in
    let there : job_in w.table c.args.slot ≡ Some c.in-Some.row.now = sym c.in-Some.ensures in
    ended_whole w c.args.slot c.in-Some.row.now c.self.invariant c.edges.ensures.joined there c.all_done.result c.all_done.ensures c.turn-turn.result c.turn-turn.ensures
    c.drain_for.new.drained c.drain_for.ensures.held
    c.drain_for.result c.drain_for.ensures.none c.drain_for.ensures.first c.in_default-drain_for.is c.in-End.why (ends_as c.turn-turn.result c.in-End.why c.in-End.is)
    c.end.new.nodes c.end.new.names.table c.end.new.bitmaps c.end.new.self c.end.new.progress c.end_job.new.self c.end.ensures.table c.end.ensures.pulls c.end.ensures.joined
    c.end.ensures.bitmaps c.end.ensures.works c.end.ensures.progress c.end_job.ensures c.edges.ensures.disks

pub returns-in-End-clause-turned : goal.returns-in-End-clause-turned
returns-in-End-clause-turned g c =
    let w : WorldSeen = face_of c.self.inside.store c.self.inside.first_faults c.self.inside.nodes c.self.inside.names.table c.self.inside.progress c.self.inside.drained c.self.inside.bitmaps c.self.inside.works in
    let there : job_in w.table c.args.slot ≡ Some c.in-Some.row.now = sym c.in-Some.ensures in
    rw (← c.self.view_is)
    (ended_so w c.args.slot c.in-Some.row.now c.self.invariant c.edges.ensures.joined there c.all_done.result c.all_done.ensures c.turn-turn.result c.turn-turn.ensures
    c.drain_for.new.drained c.drain_for.ensures.held
    c.drain_for.result c.drain_for.ensures.none c.drain_for.ensures.first c.in_default-drain_for.is c.in-End.why (ends_as c.turn-turn.result c.in-End.why c.in-End.is)
    c.end.new.nodes c.end.new.names.table c.end.new.bitmaps c.end.new.self c.end.new.progress c.end_job.new.self c.end.ensures.table c.end.ensures.pulls c.end.ensures.joined
    c.end.ensures.bitmaps c.end.ensures.works c.end.ensures.progress c.end_job.ensures)
