use Rattle.std.proofs.Common.{◌≡◌, Some, sym}
use Rattle.qmp_rules.specs.Table.{job_in}
use Rattle.world_copies.proofs.JobSteps.{in_slot, room_to_copy}
use Rattle.world_copies.proofs.Wholes.{takes_whole}
use Rattle.world_parts.specs.Face.{WorldSeen, face_of}
use Rattle.world_parts.specs.Jobs.{TakesBlock}
use Rattle.blk_world.proofs.JobCopies.{taken_in, took}
use Rattle.blk_world.proofs.world.World.put_take.Goals as goal

pub take-answer-requires-clause-can : goal.take-answer-requires-clause-can
take-answer-requires-clause-can g c =
    let w : WorldSeen = face_of c.self.inside.store c.self.inside.first_faults c.self.inside.nodes c.self.inside.names.table c.self.inside.progress c.self.inside.drained c.self.inside.bitmaps c.self.inside.works in
    let there : job_in w.table c.args.slot ≡ Some c.in_ok-row.row.now = sym c.in_ok-row.ensures in
    room_to_copy w c.self.invariant c.edges.ensures.joined c.in_ok-row.row.now (in_slot w.table c.args.slot c.in_ok-row.row.now there)

pub returns-clause-taken : goal.returns-clause-taken
returns-clause-taken g c =
    let w : WorldSeen = face_of c.self.inside.store c.self.inside.first_faults c.self.inside.nodes c.self.inside.names.table c.self.inside.progress c.self.inside.drained c.self.inside.bitmaps c.self.inside.works in
    let there : job_in w.table c.args.slot ≡ Some c.in_ok-row.row.now = sym c.in_ok-row.ensures in
    let v : WorldSeen = record w { nodes = c.take-answer.new.nodes; works = c.take-answer.new.self } in
    let did : TakesBlock w v c.in_ok-row.row.now c.take-answer.new.buffer c.take-answer.result
    = took w c.self.invariant c.edges.ensures.joined c.law.ensures c.in_ok-row.row.now (in_slot w.table c.args.slot c.in_ok-row.row.now there) c.take-answer.new.nodes
    c.take-answer.new.self c.edges-2.ensures.joined c.take-answer.ensures.told c.fault_law.ensures c.take-answer.new.buffer c.take-answer.result
    (rw c.entries-position.ensures at c.take-answer.ensures.takes) c.take-answer.ensures.disks in
    rw (← c.self.view_is) (taken_in w v c.args.slot c.in_ok-row.row.now c.take-answer.new.buffer c.take-answer.result c.told_of.result there did c.told_of.ensures)

pub invariant_of-self : goal.invariant_of-self
invariant_of-self g c =
    let w : WorldSeen = face_of c.self.inside.store c.self.inside.first_faults c.self.inside.nodes c.self.inside.names.table c.self.inside.progress c.self.inside.drained c.self.inside.bitmaps c.self.inside.works in
    let there : job_in w.table c.args.slot ≡ Some c.in_ok-row.row.now = sym c.in_ok-row.ensures in
    let v : WorldSeen = record w { nodes = c.take-answer.new.nodes; works = c.take-answer.new.self } in
    let did : TakesBlock w v c.in_ok-row.row.now c.take-answer.new.buffer c.take-answer.result
    = took w c.self.invariant c.edges.ensures.joined c.law.ensures c.in_ok-row.row.now (in_slot w.table c.args.slot c.in_ok-row.row.now there) c.take-answer.new.nodes
    c.take-answer.new.self c.edges-2.ensures.joined c.take-answer.ensures.told c.fault_law.ensures c.take-answer.new.buffer c.take-answer.result
    (rw c.entries-position.ensures at c.take-answer.ensures.takes) c.take-answer.ensures.disks in
    takes_whole w v c.in_ok-row.row.now c.take-answer.new.buffer c.take-answer.result c.self.invariant did
