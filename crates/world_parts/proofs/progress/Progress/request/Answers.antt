use Rattle.std.proofs.Common.{sym, ◌∙◌, ap}
use Rattle.std.specs.Prelude.{option_map}
use Rattle.world_parts.specs.declared.row.InFlight.{InFlight}
use Rattle.world_parts.proofs.InTheWayLemmas.{request-is}
use Rattle.world_parts.proofs.progress.Progress.request.Goals as goal

pub returns-in-Some : goal.returns-in-Some
returns-in-Some c =
    let there = rw c.as_slice.ensures.value at c.row_at-row.ensures in
    let is = request-is c.self.inside.history.events c.self.inside.rows.items c.args.guest c.row_at-row.result there c.self.invariant.placed in
    rw (← c.self.view_is) (sym (is ∙ ap (option_map (λ (f : InFlight). c.row_at-row.result.done)) c.in-Some.is))

pub returns-in-None : goal.returns-in-None
returns-in-None c =
    let there = rw c.as_slice.ensures.value at c.row_at-row.ensures in
    let is = request-is c.self.inside.history.events c.self.inside.rows.items c.args.guest c.row_at-row.result there c.self.invariant.placed in
    rw (← c.self.view_is) (sym (is ∙ ap (option_map (λ (f : InFlight). c.row_at-row.result.done)) c.in-None.is))
