use Rattle.std.specs.Prelude.{string_bytes}
use Rattle.qmp_codec.specs.Commands.{seen_command}
use Rattle.qmp_rules.specs.Table.{RunTable}
use Rattle.world_parts.specs.Coherent.{AreDrainsKept, AreJobsKept}
use Rattle.world_parts.specs.Face.{WorldSeen, face_of}
use Rattle.world_changes.proofs.CarryInTable.{counts_back, counts_bitmaps, counts_carried, counts_coherent}
use Rattle.blk_world.proofs.KeptJobs.{counts_keep}
use Rattle.blk_world.proofs.world.World.carry_counts.Goals as goal

pub answer_counts-requires-clause-free : goal.answer_counts-requires-clause-free
answer_counts-requires-clause-free g c = c.self.invariant.bitmaps.each

pub invariant_of-self : goal.invariant_of-self
invariant_of-self g c =
    let w : WorldSeen = face_of c.self.inside.store c.self.inside.first_faults c.self.inside.nodes c.self.inside.names.table c.self.inside.progress c.self.inside.drained c.self.inside.bitmaps c.self.inside.works in
    record {
      coherent = counts_coherent w c.answer_counts.new.names.table
          (seen_command c.args.command.now) c.requires c.answer_counts.result
          c.answer_counts.ensures.changed c.answer_counts.ensures.kept c.self.invariant.coherent;
      tell = c.self.invariant.tell;
      counted = c.self.invariant.counted;
      bitmaps = counts_bitmaps w c.answer_counts.new.names.table
          (seen_command c.args.command.now) c.requires c.answer_counts.result
          c.answer_counts.ensures.changed c.answer_counts.ensures.kept c.self.invariant.bitmaps;
      jobs = counts_keep (λ (t : RunTable). AreJobsKept t w.works w.progress.aside) w.table c.answer_counts.new.names.table
          (seen_command c.args.command.now) c.requires c.answer_counts.result
          c.answer_counts.ensures.changed c.answer_counts.ensures.kept c.self.invariant.jobs;
      drains = counts_keep (λ (t : RunTable). AreDrainsKept t w.drains) w.table c.answer_counts.new.names.table
          (seen_command c.args.command.now) c.requires c.answer_counts.result
          c.answer_counts.ensures.changed c.answer_counts.ensures.kept c.self.invariant.drains;
    }

pub returns-clause-carried : goal.returns-clause-carried
returns-clause-carried g c =
    rw (← c.self.view_is) (counts_carried _ c.answer_counts.new.names.table
    (seen_command c.args.command.now) c.requires
    string_bytes c.args.given.now c.answer_counts.result c.self.invariant.bitmaps c.answer_counts.ensures.said c.answer_counts.ensures.changed)

pub returns-clause-back : goal.returns-clause-back
returns-clause-back g c =
    rw (← c.self.view_is) (counts_back _ c.answer_counts.new.names.table
    (seen_command c.args.command.now) c.requires c.answer_counts.result c.answer_counts.ensures.kept)
