use Rattle.std.proofs.Common.{◌≡◌, ◌+◌, ◌-◌, ◌∙◌, ap, arith}
use Rattle.qmp_rules.specs.Chains.{is_listed}
use Rattle.world_parts.specs.Progress.{ended_in}
use Rattle.world_parts.proofs.Ends.{marked-at}
use Rattle.world_parts.proofs.progress.Progress.is_done.Goals as goal

pub returns : goal.returns
returns c =
    let there = rw c.as_slice.ensures.value at c.row_at.ensures in
    let apart = c.if-actor-eq0.false in
    let at : c.args.actor - 1 + 1 ≡ c.args.actor = omega arith in
    rw (← c.self.view_is) (marked-at (ended_in c.self.inside.history.events) 1 c.self.inside.rows.items (c.args.actor - 1) c.row_at.result c.self.invariant.guests there
    ∙ ap (λ n. is_listed n (ended_in c.self.inside.history.events)) at)
