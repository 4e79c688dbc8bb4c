use Rattle.qmp_codec.specs.Commands.{seen_command}
use Rattle.world_parts.specs.Face.{WorldSeen, face_of}
use Rattle.world_changes.specs.Changing.{scene}
use Rattle.world_changes.proofs.ChangesHandled.{changes_back, changes_carried, changes_whole, few_drives}
use Rattle.blk_world.proofs.world.World.carry_changes.Goals as goal

pub carry_changes-carried-requires-clause-alike : goal.carry_changes-carried-requires-clause-alike
carry_changes-carried-requires-clause-alike g c = c.self.invariant.coherent.alike

pub carry_changes-carried-requires-clause-rests : goal.carry_changes-carried-requires-clause-rests
carry_changes-carried-requires-clause-rests g c = c.self.invariant.coherent.table

pub carry_changes-carried-requires-clause-bitmaps : goal.carry_changes-carried-requires-clause-bitmaps
carry_changes-carried-requires-clause-bitmaps g c = c.self.invariant.bitmaps

pub carry_changes-carried-requires-clause-few : goal.carry_changes-carried-requires-clause-few
carry_changes-carried-requires-clause-few g c =
    few_drives c.self.inside.names.table c.self.inside.nodes c.self.invariant.coherent.alike c.edges.ensures.joined

pub returns-clause-carried : goal.returns-clause-carried
returns-clause-carried g c =
    let w : WorldSeen = face_of c.self.inside.store c.self.inside.first_faults c.self.inside.nodes c.self.inside.names.table c.self.inside.progress c.self.inside.drained c.self.inside.bitmaps c.self.inside.works in
    let now = c.carry_changes-carried.new in
    rw (← c.self.view_is)
    (changes_carried w c.self.invariant c.edges.ensures.joined c.args.given.now (seen_command c.args.command.now) c.requires
    (scene now.names.table now.nodes now.drained now.bitmaps) c.edges-2.ensures.joined c.carry_changes-carried.result c.carry_changes-carried.ensures.ok)

pub returns-clause-back : goal.returns-clause-back
returns-clause-back g c =
    let w : WorldSeen = face_of c.self.inside.store c.self.inside.first_faults c.self.inside.nodes c.self.inside.names.table c.self.inside.progress c.self.inside.drained c.self.inside.bitmaps c.self.inside.works in
    let now = c.carry_changes-carried.new in
    rw (← c.self.view_is)
    (changes_back w c.self.invariant c.edges.ensures.joined c.args.given.now (seen_command c.args.command.now) c.requires
    (scene now.names.table now.nodes now.drained now.bitmaps) c.edges-2.ensures.joined c.carry_changes-carried.result c.carry_changes-carried.ensures.ok
    c.carry_changes-carried.ensures.back)

pub invariant_of-self : goal.invariant_of-self
invariant_of-self g c =
    let w : WorldSeen = face_of c.self.inside.store c.self.inside.first_faults c.self.inside.nodes c.self.inside.names.table c.self.inside.progress c.self.inside.drained c.self.inside.bitmaps c.self.inside.works in
    let now = c.carry_changes-carried.new in
    changes_whole w c.self.invariant c.edges.ensures.joined c.args.given.now (seen_command c.args.command.now) c.requires
    (scene now.names.table now.nodes now.drained now.bitmaps) c.edges-2.ensures.joined c.carry_changes-carried.result c.carry_changes-carried.ensures.ok
    c.carry_changes-carried.ensures.back
