use Rattle.std.proofs.Common.{◌≡◌, Some, sym}
use Rattle.qmp_rules.specs.Table.{job_at}
use Rattle.world_copies.proofs.JobSteps.{has_target, numbered_so}
use Rattle.world_copies.proofs.Wholes.{settles_whole}
use Rattle.world_parts.specs.Face.{WorldSeen, face_of}
use Rattle.blk_world.proofs.JobCopies.{job_here, settled, settled_at}
use Rattle.blk_world.proofs.world.World.put_settle.Goals as goal

pub settle-answer-requires-clause-own : goal.settle-answer-requires-clause-own
settle-answer-requires-clause-own g c =
    sym (numbered_so c.self.inside.names.table c.args.t.job c.in-Some.row.now (sym c.in-Some.ensures))

pub settle-answer-requires-clause-can : goal.settle-answer-requires-clause-can
settle-answer-requires-clause-can g c =
    let w : WorldSeen = face_of c.self.inside.store c.self.inside.first_faults c.self.inside.nodes c.self.inside.names.table c.self.inside.progress c.self.inside.drained c.self.inside.bitmaps c.self.inside.works in
    let there : job_at w.table c.args.t.job ≡ Some c.in-Some.row.now = sym c.in-Some.ensures in
    has_target w c.self.invariant c.edges.ensures.joined c.in-Some.row.now (job_here w.table c.args.t.job c.in-Some.row.now there)

pub returns-in-Some-clause-settled : goal.returns-in-Some-clause-settled
returns-in-Some-clause-settled g c =
    let w : WorldSeen = face_of c.self.inside.store c.self.inside.first_faults c.self.inside.nodes c.self.inside.names.table c.self.inside.progress c.self.inside.drained c.self.inside.bitmaps c.self.inside.works in
    let there : job_at w.table c.args.t.job ≡ Some c.in-Some.row.now = sym c.in-Some.ensures in
    let v : WorldSeen = record w { nodes = c.settle-answer.new.nodes; works = c.settle-answer.new.self } in
    rw (← c.self.view_is)
    (settled_at w v c.args.t.job c.in-Some.row.now c.settle-answer.ensures.settles.target c.args.t c.args.bytes.now c.settle-answer.result there
    (settled w c.self.invariant c.edges.ensures.joined c.law.ensures c.in-Some.row.now (job_here w.table c.args.t.job c.in-Some.row.now there) c.settle-answer.new.nodes
    c.settle-answer.new.self c.edges-in-Some.ensures.joined c.settle-answer.ensures.told c.fault_law.ensures c.args.t c.args.bytes.now c.settle-answer.result
    c.settle-answer.ensures.settles).0)

pub invariant_of-self : goal.invariant_of-self
invariant_of-self g c =
    let w : WorldSeen = face_of c.self.inside.store c.self.inside.first_faults c.self.inside.nodes c.self.inside.names.table c.self.inside.progress c.self.inside.drained c.self.inside.bitmaps c.self.inside.works in
    let there : job_at w.table c.args.t.job ≡ Some c.in-Some.row.now = sym c.in-Some.ensures in
    let v : WorldSeen = record w { nodes = c.settle-answer.new.nodes; works = c.settle-answer.new.self } in
    let did =
    settled w c.self.invariant c.edges.ensures.joined c.law.ensures c.in-Some.row.now (job_here w.table c.args.t.job c.in-Some.row.now there) c.settle-answer.new.nodes
    c.settle-answer.new.self c.edges-in-Some.ensures.joined c.settle-answer.ensures.told c.fault_law.ensures c.args.t c.args.bytes.now c.settle-answer.result
    c.settle-answer.ensures.settles in
    settles_whole w v c.in-Some.row.now c.settle-answer.ensures.settles.target c.args.t c.args.bytes.now c.settle-answer.result c.self.invariant did.1 did.0
