use Rattle.std.specs.Prelude.{string_bytes}
use Rattle.qmp_codec.specs.Commands.{seen_command}
use Rattle.world_parts.specs.Face.{WorldSeen, face_of}
use Rattle.world_parts.specs.Looking.{site}
use Rattle.world_additions.proofs.AddHandled.{addition-back, addition-texts, addition-whole, can-look}
use Rattle.blk_world.proofs.world.World.carry_addition.Goals as goal

pub add_by-requires-clause-can : goal.add_by-requires-clause-can
add_by-requires-clause-can g c =
    can-look (face_of c.self.inside.store c.self.inside.first_faults c.self.inside.nodes c.self.inside.names.table c.self.inside.progress c.self.inside.drained c.self.inside.bitmaps c.self.inside.works) c.self.invariant

pub returns-clause-carried : goal.returns-clause-carried
returns-clause-carried g c =
    let w : WorldSeen = face_of c.self.inside.store c.self.inside.first_faults c.self.inside.nodes c.self.inside.names.table c.self.inside.progress c.self.inside.drained c.self.inside.bitmaps c.self.inside.works in
    rw (← c.self.view_is)
    (addition-texts w c.self.invariant c.edges.ensures.joined c.args.given.now (site c.add_by.new.store c.add_by.new.nodes) c.add_by.new.names.table
    c.add_by.result string_bytes (seen_command c.args.command.now) c.requires c.add_by.ensures.ok)

pub returns-clause-back : goal.returns-clause-back
returns-clause-back g c =
    let w : WorldSeen = face_of c.self.inside.store c.self.inside.first_faults c.self.inside.nodes c.self.inside.names.table c.self.inside.progress c.self.inside.drained c.self.inside.bitmaps c.self.inside.works in
    rw (← c.self.view_is)
    (addition-back w c.self.invariant c.edges.ensures.joined c.args.given.now (site c.add_by.new.store c.add_by.new.nodes) c.add_by.new.names.table
    c.add_by.result string_bytes (seen_command c.args.command.now) c.requires c.add_by.ensures.back c.add_by.ensures.same)

pub invariant_of-self : goal.invariant_of-self
invariant_of-self g c =
    let w : WorldSeen = face_of c.self.inside.store c.self.inside.first_faults c.self.inside.nodes c.self.inside.names.table c.self.inside.progress c.self.inside.drained c.self.inside.bitmaps c.self.inside.works in
    addition-whole w c.self.invariant c.edges.ensures.joined c.args.given.now (site c.add_by.new.store c.add_by.new.nodes) c.add_by.new.names.table
    c.add_by.result string_bytes (seen_command c.args.command.now) c.requires c.add_by.ensures.ok c.add_by.ensures.back c.add_by.ensures.same
