use Rattle.std.proofs.Common.{◌∙◌, ap}
use Rattle.qmp_codec.specs.Commands.{seen_command}
use Rattle.qmp_rules.specs.Changes.{all_changed}
use Rattle.flat_machine.specs.Marks.{Drained}
use Rattle.world_parts.proofs.Accepted.{built_accepted}
use Rattle.world_changes.specs.Changing.{scene}
use Rattle.world_changes.proofs.ChangesSaid.{bitmaps_untold, changed_so}
use Rattle.world_changes.proofs.changing.carry_or_wait.Goals as goal

pub drain-requires-clause-built : goal.drain-requires-clause-built
drain-requires-clause-built g c = built_accepted c.args.names.now.table c.args.told.now (seen_command c.args.command.now) c.requires.accepted

pub accept-requires-clause-accepted : goal.accept-requires-clause-accepted
accept-requires-clause-accepted g c =
    bitmaps_untold c.args.names.now.table c.args.nodes.now (seen_command c.args.command.now) c.args.told.now c.requires.tells c.requires.accepted

pub returns-in-Some-clause-ok : goal.returns-in-Some-clause-ok
returns-in-Some-clause-ok g c = λ s table guests.
    let first = rw c.in-Some.is at (c.in_ok-found.ensures.first s table guests) in
    let held = rw c.in-Some.is at c.in_ok-found.ensures.held in
    record {
      told = c.args.told.now;
      tells = c.requires.tells;
      accepted = c.requires.accepted;
      waits = first;
      left = ap (λ (drains : Drained). scene c.args.names.now.table c.args.nodes.now drains c.args.bitmaps.now) held;
    }

pub returns-in_ok-text-in-None-clause-ok : goal.returns-in_ok-text-in-None-clause-ok
returns-in_ok-text-in-None-clause-ok g c = λ s table guests.
    let first = rw c.in-None.is at (c.in_ok-found.ensures.first s table guests) in
    let held = rw c.in-None.is at c.in_ok-found.ensures.held in
    changed_so s c.args.given.now (seen_command c.args.command.now)
    (scene c.args.names.now.table c.args.nodes.now c.args.drained.now c.args.bitmaps.now) _ c.args.told.now c.requires.tells _ c.requires.accepted
    (c.in_ok-text-in-None.ensures.table ∙ ap (all_changed c.args.names.now.table) c.requires.edits)
    (record { rewired = c.in_ok-text-in-None.ensures.nodes; bitmaps = c.in_ok-text-in-None.ensures.bitmaps })
    c.in_ok-text-in-None.ensures.said first held
