use Rattle.std.specs.Prelude.{string_bytes}
use Rattle.qmp_codec.specs.Commands.{seen_command}
use Rattle.world_parts.specs.Deleting.{ground_in}
use Rattle.world_parts.specs.Face.{WorldSeen}
use Rattle.world_files.proofs.Belonging.{belong_of}
use Rattle.world_files.proofs.DeletedHandled.{deletion_back, deletion_texts, deletion_whole}
use Rattle.blk_world.proofs.world.World.carry_deletion.Goals as goal

pub delete-requires-clause-belong : goal.delete-requires-clause-belong
delete-requires-clause-belong g c =
    belong_of c.self.inside.names.table (ground_in c.self.inside.store c.self.inside.nodes) c.self.inside.progress c.self.invariant.coherent

pub returns-clause-carried : goal.returns-clause-carried
returns-clause-carried g c =
    let w : WorldSeen = record {
      files = c.self.inside.store.files;
      earlier = c.self.inside.store.earlier;
      opened = c.self.inside.store.opened;
      room = c.self.inside.store.room;
      faults = c.self.inside.store.faults;
      failed_call = c.self.inside.store.failed_call;
      first_faults = c.self.inside.first_faults;
      nodes = c.self.inside.nodes;
      table = c.self.inside.names.table;
      progress = c.self.inside.progress;
      drains = c.self.inside.drained;
      bitmaps = c.self.inside.bitmaps;
      works = c.self.inside.works;
    } in
    rw (← c.self.view_is, c.delete.ensures.earlier)
    (deletion_texts w c.self.invariant c.edges.ensures.joined c.edges.ensures.disks c.args.given.now (ground_in c.delete.new.store c.delete.new.nodes)
    c.delete.new.names.table c.delete.new.bitmaps (seen_command c.args.command.now) c.requires c.delete.result string_bytes c.delete.ensures.handled
    c.delete.ensures.bitmaps)

pub returns-clause-back : goal.returns-clause-back
returns-clause-back g c =
    let w : WorldSeen = record {
      files = c.self.inside.store.files;
      earlier = c.self.inside.store.earlier;
      opened = c.self.inside.store.opened;
      room = c.self.inside.store.room;
      faults = c.self.inside.store.faults;
      failed_call = c.self.inside.store.failed_call;
      first_faults = c.self.inside.first_faults;
      nodes = c.self.inside.nodes;
      table = c.self.inside.names.table;
      progress = c.self.inside.progress;
      drains = c.self.inside.drained;
      bitmaps = c.self.inside.bitmaps;
      works = c.self.inside.works;
    } in
    rw (← c.self.view_is, c.delete.ensures.earlier)
    (deletion_back c.delete.result string_bytes w (seen_command c.args.command.now) (ground_in c.delete.new.store c.delete.new.nodes) c.delete.new.names.table c.delete.new.bitmaps c.delete.ensures.back
    c.delete.ensures.bitmaps_back)

pub invariant_of-self : goal.invariant_of-self
invariant_of-self g c =
    let w : WorldSeen = record {
      files = c.self.inside.store.files;
      earlier = c.self.inside.store.earlier;
      opened = c.self.inside.store.opened;
      room = c.self.inside.store.room;
      faults = c.self.inside.store.faults;
      failed_call = c.self.inside.store.failed_call;
      first_faults = c.self.inside.first_faults;
      nodes = c.self.inside.nodes;
      table = c.self.inside.names.table;
      progress = c.self.inside.progress;
      drains = c.self.inside.drained;
      bitmaps = c.self.inside.bitmaps;
      works = c.self.inside.works;
    } in
    rw c.delete.ensures.earlier
    (deletion_whole w c.self.invariant c.edges.ensures.joined c.edges.ensures.disks c.args.given.now (ground_in c.delete.new.store c.delete.new.nodes)
    c.delete.new.names.table c.delete.new.bitmaps (seen_command c.args.command.now) c.requires c.delete.result string_bytes c.delete.ensures.handled c.delete.ensures.bitmaps
    c.delete.ensures.back c.delete.ensures.bitmaps_back)
