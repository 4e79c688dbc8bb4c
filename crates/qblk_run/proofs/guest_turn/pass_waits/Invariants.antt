use Rattle.std.proofs.Common.{◌≡◌, ◌++◌, [], None, length}
use Rattle.std.specs.Prelude.{option_to_list}
use Rattle.flat_machine.specs.Courses.{past_waits}
use Rattle.world_parts.specs.Progress.{answered_in}
use Rattle.qblk_run.proofs.guest_turn.pass_waits.Given as goal

-- what is left is the same but for waits that are over
abbrev pub invariant-loop-rest : goal.invariant-loop-rest
invariant-loop-rest g l = record {
  passed : past_waits (answered_in (g.W.Events.face l.world).progress.log.events) (option_to_list l.next ++ l.rest.items)
      ≡ past_waits (answered_in (g.W.Events.face l.world).progress.log.events) (option_to_list l.initial.next ++ l.initial.rest.items);
  seen : l.next ≡ None → l.rest.items ≡ [];
}

abbrev pub decreases-loop-rest : goal.decreases-loop-rest
decreases-loop-rest g l = length (option_to_list l.next ++ l.rest.items)
