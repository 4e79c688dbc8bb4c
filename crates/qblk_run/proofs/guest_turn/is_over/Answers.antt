use Rattle.std.proofs.Common.{sym, ◌∙◌}
use Rattle.world_parts.specs.Progress.{answered_in}
use Rattle.qblk_run.proofs.Answered.{answered-is, waits-over, none-over}
use Rattle.qblk_run.proofs.guest_turn.is_over.Goals as goal

pub returns-in-Some : goal.returns-in-Some
returns-in-Some g c =
    let answered = answered_in (g.W.Events.face c.args.world.now).progress.log.events in
    answered-is c.answered.result answered c.in-Some.line c.answered.ensures
    ∙ sym (waits-over answered c.args.next.now c.in-Some.line (sym c.waited.ensures ∙ c.in-Some.is))

pub returns-in-None : goal.returns-in-None
returns-in-None g c =
    let answered = answered_in (g.W.Events.face c.args.world.now).progress.log.events in
    sym (none-over answered c.args.next.now (sym c.waited.ensures ∙ c.in-None.is))
