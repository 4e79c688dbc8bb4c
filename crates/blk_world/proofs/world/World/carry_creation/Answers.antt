use Rattle.std.specs.Prelude.{string_bytes}
use Rattle.qmp_codec.specs.Commands.{seen_command}
use Rattle.world_parts.specs.Deleting.{ground_in}
use Rattle.world_parts.specs.Face.{WorldSeen}
use Rattle.world_files.proofs.Belonging.{belong_of}
use Rattle.world_parts.proofs.Handled.{untouched_back}
use Rattle.world_files.proofs.MadeEnd.{creation_texts, creation_whole}
use Rattle.blk_world.proofs.world.World.carry_creation.Goals as goal

pub make-text-requires-clause-belong : goal.make-text-requires-clause-belong
make-text-requires-clause-belong g c =
    belong_of c.self.inside.names.table (ground_in c.self.inside.store c.self.inside.nodes) c.self.inside.progress c.self.invariant.coherent

pub returns-clause-carried : goal.returns-clause-carried
returns-clause-carried g c =
    let w : WorldSeen = record {
      files = c.self.inside.store.files;
      earlier = c.self.inside.store.earlier;
      opened = c.self.inside.store.opened;
      room = c.self.inside.store.room;
      faults = c.self.inside.store.faults;
      failed_call = c.self.inside.store.failed_call;
      first_faults = c.self.inside.first_faults;
      nodes = c.self.inside.nodes;
      table = c.self.inside.names.table;
      progress = c.self.inside.progress;
      drains = c.self.inside.drained;
      bitmaps = c.self.inside.bitmaps;
      works = c.self.inside.works;
    } in
    rw (← c.self.view_is, c.make-text.ensures.earlier)
    (creation_texts w c.self.invariant c.edges.ensures.joined c.args.given.now (ground_in c.make-text.new.store c.make-text.new.nodes) c.edges-2.ensures.joined
    c.make-text.ensures.faults c.make-text.new.names.table c.make-text.result string_bytes (seen_command c.args.command.now) c.requires c.make-text.ensures.made)

pub returns-clause-back : goal.returns-clause-back
returns-clause-back g c =
    let w : WorldSeen = record {
      files = c.self.inside.store.files;
      earlier = c.self.inside.store.earlier;
      opened = c.self.inside.store.opened;
      room = c.self.inside.store.room;
      faults = c.self.inside.store.faults;
      failed_call = c.self.inside.store.failed_call;
      first_faults = c.self.inside.first_faults;
      nodes = c.self.inside.nodes;
      table = c.self.inside.names.table;
      progress = c.self.inside.progress;
      drains = c.self.inside.drained;
      bitmaps = c.self.inside.bitmaps;
      works = c.self.inside.works;
    } in
    rw (← c.self.view_is, c.make-text.ensures.earlier)
    (untouched_back c.make-text.result string_bytes w (seen_command c.args.command.now) (ground_in c.make-text.new.store c.make-text.new.nodes) c.make-text.new.names.table c.make-text.ensures.back)

pub invariant_of-self : goal.invariant_of-self
invariant_of-self g c =
    let w : WorldSeen = record {
      files = c.self.inside.store.files;
      earlier = c.self.inside.store.earlier;
      opened = c.self.inside.store.opened;
      room = c.self.inside.store.room;
      faults = c.self.inside.store.faults;
      failed_call = c.self.inside.store.failed_call;
      first_faults = c.self.inside.first_faults;
      nodes = c.self.inside.nodes;
      table = c.self.inside.names.table;
      progress = c.self.inside.progress;
      drains = c.self.inside.drained;
      bitmaps = c.self.inside.bitmaps;
      works = c.self.inside.works;
    } in
    rw c.make-text.ensures.earlier
    (creation_whole w c.self.invariant c.edges.ensures.joined c.args.given.now (ground_in c.make-text.new.store c.make-text.new.nodes) c.edges-2.ensures.joined
    c.make-text.ensures.faults c.make-text.new.names.table c.make-text.result string_bytes (seen_command c.args.command.now) c.requires c.make-text.ensures.made
    c.make-text.ensures.back)
