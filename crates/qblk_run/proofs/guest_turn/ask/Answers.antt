use Rattle.std.proofs.Common.{◌≡◌, ◌++◌, ◌∷◌, List, refl, sym, ◌∙◌, ap, subst, arith, Option, Some}
use Rattle.std.specs.Prelude.{option_to_list}
use Rattle.trace_codec.specs.declared.wish.Wish.{Wish}
use Rattle.trace_codec.specs.declared.wish.Wish.TheVariants.{Ask, Wait}
use Rattle.trace_codec.specs.declared.waits.Waits.TheVariants.{Line}
use Rattle.flat_machine.specs.Courses.{past_waits}
use Rattle.flat_machine.specs.Blocked.{TraceWaits}
use Rattle.world_parts.specs.Face.{WorldSeen, seen_state}
use Rattle.world_parts.specs.Progress.{answered_in, HasRoomFor}
use Rattle.qblk_run.specs.Tasks.{Task}
use Rattle.qblk_run.specs.Worlds.{HasCome}
use Rattle.qblk_run.proofs.Continuing.{Passes, passed-task}
use Rattle.qblk_run.proofs.GuestTurns.{ask-room, ask-held, beside-kept, ask-waits, ask-moves, admit-move, refuse-move, same-task, first-is}
use Rattle.qblk_run.proofs.Worlds.{come-admitted, come-refused}
use Rattle.qblk_run.proofs.guest_turn.ask.Goals as goal

pub admit-requires-clause-room : goal.admit-requires-clause-room
admit-requires-clause-room g c =
    let w = g.W.Events.face c.args.world.now in
    let view : Task = record { wishes = option_to_list c.pass_waits.new.next ++ c.pass_waits.new.rest.items; left = c.task.inside.left; is_done = c.task.inside.is_done } in
    let passes : Passes (answered_in w.progress.log.events) c.args.task.now view = record {
      wishes = c.pass_waits.ensures.passed ∙ ap (λ (t : Task). past_waits (answered_in w.progress.log.events) t.wishes) c.task.view_is;
      left = ap (λ (t : Task). t.left) c.task.view_is;
      is_done = ap (λ (t : Task). t.is_done) c.task.view_is;
    } in
    let next : c.pass_waits.new.next ≡ Some (Ask c.in-Some-Ask.op) = sym c.take.ensures.value ∙ c.in-Some-Ask.is ∙ ap (λ (x : Wish). Some x) c.in-Some-Ask.field-0-is in
    ask-room w.progress c.args.guest c.args.task.now view c.in-Some-Ask.op c.pass_waits.new.rest.items passes c.requires.task
    (first-is c.pass_waits.new.next c.pass_waits.new.rest.items (Ask c.in-Some-Ask.op) next) c.requires.entries c.requires.bytes

pub overflow_cast-task : goal.overflow_cast-task
overflow_cast-task g c =
    let w = g.W.Events.face c.args.world.now in
    let view : Task = record { wishes = option_to_list c.pass_waits.new.next ++ c.pass_waits.new.rest.items; left = c.task.inside.left; is_done = c.task.inside.is_done } in
    let passes : Passes (answered_in w.progress.log.events) c.args.task.now view = record {
      wishes = c.pass_waits.ensures.passed ∙ ap (λ (t : Task). past_waits (answered_in w.progress.log.events) t.wishes) c.task.view_is;
      left = ap (λ (t : Task). t.left) c.task.view_is;
      is_done = ap (λ (t : Task). t.is_done) c.task.view_is;
    } in
    let next : c.pass_waits.new.next ≡ Some (Ask c.in-Some-Ask.op) = sym c.take.ensures.value ∙ c.in-Some-Ask.is ∙ ap (λ (x : Wish). Some x) c.in-Some-Ask.field-0-is in
    let room : HasRoomFor c.in-Some-Ask.op w.progress.spare = ask-room w.progress c.args.guest c.args.task.now view c.in-Some-Ask.op c.pass_waits.new.rest.items passes c.requires.task
    (first-is c.pass_waits.new.next c.pass_waits.new.rest.items (Ask c.in-Some-Ask.op) next) c.requires.entries c.requires.bytes in
    omega (arith, room.pieces, c.pieces-pieces.ensures)

pub returns-in-Some-Wait-clause-turn : goal.returns-in-Some-Wait-clause-turn
returns-in-Some-Wait-clause-turn g c =
    let w = g.W.Events.face c.args.world.now in
    let view : Task = record { wishes = option_to_list c.pass_waits.new.next ++ c.pass_waits.new.rest.items; left = c.task.inside.left; is_done = c.task.inside.is_done } in
    let passes : Passes (answered_in w.progress.log.events) c.args.task.now view = record {
      wishes = c.pass_waits.ensures.passed ∙ ap (λ (t : Task). past_waits (answered_in w.progress.log.events) t.wishes) c.task.view_is;
      left = ap (λ (t : Task). t.left) c.task.view_is;
      is_done = ap (λ (t : Task). t.is_done) c.task.view_is;
    } in
    let next : c.pass_waits.new.next ≡ Some (Wait c.in-Some-Wait.line) = sym c.take.ensures.value ∙ c.in-Some-Wait.is ∙ ap (λ (x : Wish). Some x) c.in-Some-Wait.field-0-is in
    let first = first-is c.pass_waits.new.next c.pass_waits.new.rest.items (Wait c.in-Some-Wait.line) next in
    ask-waits w w c.args.guest c.args.task.now view _ passes
    (same-task _ view (sym first) refl refl) refl (ap (λ (t : Task). t.left) c.task.view_is ∙ c.requires.idle) (Line c.in-Some-Wait.line)
    (subst (λ (x : List Wish). TraceWaits (seen_state w) c.args.guest x (Line c.in-Some-Wait.line)) (sym first) refl)

pub returns-in-Admitted-clause-turn : goal.returns-in-Admitted-clause-turn
returns-in-Admitted-clause-turn g c =
    let w = g.W.Events.face c.args.world.now in
    let v = g.W.Events.face c.admit.new.self in
    let view : Task = record { wishes = option_to_list c.pass_waits.new.next ++ c.pass_waits.new.rest.items; left = c.task.inside.left; is_done = c.task.inside.is_done } in
    let passes : Passes (answered_in w.progress.log.events) c.args.task.now view = record {
      wishes = c.pass_waits.ensures.passed ∙ ap (λ (t : Task). past_waits (answered_in w.progress.log.events) t.wishes) c.task.view_is;
      left = ap (λ (t : Task). t.left) c.task.view_is;
      is_done = ap (λ (t : Task). t.is_done) c.task.view_is;
    } in
    let next : c.pass_waits.new.next ≡ Some (Ask c.in-Some-Ask.op) = sym c.take.ensures.value ∙ c.in-Some-Ask.is ∙ ap (λ (x : Wish). Some x) c.in-Some-Ask.field-0-is in
    let first = first-is c.pass_waits.new.next c.pass_waits.new.rest.items (Ask c.in-Some-Ask.op) next in
    let room : HasRoomFor c.in-Some-Ask.op w.progress.spare = ask-room w.progress c.args.guest c.args.task.now view c.in-Some-Ask.op c.pass_waits.new.rest.items passes c.requires.task first c.requires.entries c.requires.bytes in
    ask-moves w v c.args.guest c.args.task.now view _ passes
    (admit-move w v c.args.guest view _ (passed-task w.progress (answered_in w.progress.log.events) c.args.guest c.args.task.now view passes c.requires.task)
    c.in-Some-Ask.op c.in-Admitted.field-0 (ap (λ (t : Task). t.left) c.task.view_is ∙ c.requires.idle)
    (first ∙ ap (λ (n : Option Wish). Ask c.in-Some-Ask.op ∷ (option_to_list n ++ c.pass_waits.new.rest.items)) (sym c.take.ensures.after)) room c.in-Admitted.ensures.kept
    (ap (λ (n : _). Some n) c.pieces-pieces.ensures) refl (ap (λ (t : Task). t.is_done) c.task.view_is ∙ c.requires.runs))
    (beside-kept w v (ap (λ (u : WorldSeen). u.drains) c.in-Admitted.ensures.kept) (ap (λ (u : WorldSeen). u.table) c.in-Admitted.ensures.kept)
    (ap (λ (u : WorldSeen). u.works) c.in-Admitted.ensures.kept))

pub returns-in-Refused-clause-turn : goal.returns-in-Refused-clause-turn
returns-in-Refused-clause-turn g c =
    let w = g.W.Events.face c.args.world.now in
    let v = g.W.Events.face c.admit.new.self in
    let view : Task = record { wishes = option_to_list c.pass_waits.new.next ++ c.pass_waits.new.rest.items; left = c.task.inside.left; is_done = c.task.inside.is_done } in
    let passes : Passes (answered_in w.progress.log.events) c.args.task.now view = record {
      wishes = c.pass_waits.ensures.passed ∙ ap (λ (t : Task). past_waits (answered_in w.progress.log.events) t.wishes) c.task.view_is;
      left = ap (λ (t : Task). t.left) c.task.view_is;
      is_done = ap (λ (t : Task). t.is_done) c.task.view_is;
    } in
    let next : c.pass_waits.new.next ≡ Some (Ask c.in-Some-Ask.op) = sym c.take.ensures.value ∙ c.in-Some-Ask.is ∙ ap (λ (x : Wish). Some x) c.in-Some-Ask.field-0-is in
    let first = first-is c.pass_waits.new.next c.pass_waits.new.rest.items (Ask c.in-Some-Ask.op) next in
    let room : HasRoomFor c.in-Some-Ask.op w.progress.spare = ask-room w.progress c.args.guest c.args.task.now view c.in-Some-Ask.op c.pass_waits.new.rest.items passes c.requires.task first c.requires.entries c.requires.bytes in
    ask-moves w v c.args.guest c.args.task.now view _ passes
    (refuse-move w v c.args.guest view _ (passed-task w.progress (answered_in w.progress.log.events) c.args.guest c.args.task.now view passes c.requires.task)
    c.in-Some-Ask.op c.in-Refused.field-0 (ap (λ (t : Task). t.left) c.task.view_is ∙ c.requires.idle)
    (first ∙ ap (λ (n : Option Wish). Ask c.in-Some-Ask.op ∷ (option_to_list n ++ c.pass_waits.new.rest.items)) (sym c.take.ensures.after)) room c.in-Refused.ensures.kept
    (ap (λ (t : Task). t.left) c.task.view_is ∙ c.requires.idle) refl (ap (λ (t : Task). t.is_done) c.task.view_is ∙ c.requires.runs))
    (beside-kept w v (ap (λ (u : WorldSeen). u.drains) c.in-Refused.ensures.kept) (ap (λ (u : WorldSeen). u.table) c.in-Refused.ensures.kept)
    (ap (λ (u : WorldSeen). u.works) c.in-Refused.ensures.kept))

pub returns-in-Admitted-clause-comes : goal.returns-in-Admitted-clause-comes
returns-in-Admitted-clause-comes g c = λ orders o d first has.
    come-admitted o d first (g.W.Events.face c.args.world.now) (g.W.Events.face c.admit.new.self) orders has (c.admit.ensures.comes o)
    c.args.guest c.in-Some-Ask.op c.in-Admitted.field-0 c.in-Admitted.ensures.answer c.in-Admitted.ensures.kept

pub returns-in-Refused-clause-comes : goal.returns-in-Refused-clause-comes
returns-in-Refused-clause-comes g c = λ orders o d first has.
    come-refused o d first (g.W.Events.face c.args.world.now) (g.W.Events.face c.admit.new.self) orders has (c.admit.ensures.comes o)
    c.args.guest c.in-Some-Ask.op c.in-Refused.field-0 c.in-Refused.ensures.answer c.in-Refused.ensures.kept

pub returns-in-Away-clause-comes : goal.returns-in-Away-clause-comes
returns-in-Away-clause-comes g c = λ orders o d first has. subst (λ (u : WorldSeen). HasCome o d first u orders) (sym c.in-Away.ensures.kept) has

pub returns-in-Held-clause-comes : goal.returns-in-Held-clause-comes
returns-in-Held-clause-comes g c = λ orders o d first has. subst (λ (u : WorldSeen). HasCome o d first u orders) (sym c.in-Held.ensures.kept) has

pub returns-in-Held-clause-turn : goal.returns-in-Held-clause-turn
returns-in-Held-clause-turn g c =
    let w = g.W.Events.face c.args.world.now in
    let view : Task = record { wishes = option_to_list c.pass_waits.new.next ++ c.pass_waits.new.rest.items; left = c.task.inside.left; is_done = c.task.inside.is_done } in
    let passes : Passes (answered_in w.progress.log.events) c.args.task.now view = record {
      wishes = c.pass_waits.ensures.passed ∙ ap (λ (t : Task). past_waits (answered_in w.progress.log.events) t.wishes) c.task.view_is;
      left = ap (λ (t : Task). t.left) c.task.view_is;
      is_done = ap (λ (t : Task). t.is_done) c.task.view_is;
    } in
    let next : c.pass_waits.new.next ≡ Some (Ask c.in-Some-Ask.op) = sym c.take.ensures.value ∙ c.in-Some-Ask.is ∙ ap (λ (x : Wish). Some x) c.in-Some-Ask.field-0-is in
    let back : c.in-Held.op ≡ c.in-Some-Ask.op = c.in-Held.ensures.answer.2 in
    let first = first-is c.pass_waits.new.next c.pass_waits.new.rest.items (Ask c.in-Some-Ask.op) next in
    ask-held w (g.W.Events.face c.admit.new.self) c.args.guest c.args.task.now view _ passes
    (same-task _ view (ap (λ (op : _). Ask op ∷ c.pass_waits.new.rest.items) back ∙ sym first) refl refl) c.in-Held.ensures.kept
    (ap (λ (t : Task). t.left) c.task.view_is ∙ c.requires.idle) c.in-Held.ensures.answer.1
