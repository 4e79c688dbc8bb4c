use Rattle.std.proofs.Common.{refl, arith}
use Rattle.world_parts.proofs.InStep.{in-step-new, guests-new}
use Rattle.world_parts.proofs.progress.Progress.new.Goals as goal

pub invariant_of-result : goal.invariant_of-result
invariant_of-result c =
    rw (c.in_ok-history.ensures, c.in_ok-rows.ensures, c.in_ok-lines.ensures.items, c.in_ok-jobs.ensures.items) (in-step-new c.args.guests c.args.room _ c.in_ok-lines.ensures.capacity _ (omega (arith, c.in_ok-jobs.ensures.capacity)))

pub returns : goal.returns
returns c = rw (c.in_ok-history.ensures, c.in_ok-rows.ensures, c.in_ok-jobs.ensures.items, guests-new c.args.guests) refl
