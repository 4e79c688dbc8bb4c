use Rattle.std.proofs.Common.{◌≡◌, ℕ, List, rules, not, ap, subst}
use Rattle.std.specs.Prelude.{◌==◌}
use Rattle.std.proofs.lemmas.Fn.{filter_same}
use Rattle.flat_machine.specs.Marks.{Drained, after_end}
use Rattle.world_parts.proofs.drained.Drained.end_job.Goals as goal

pub returns : goal.returns
returns c =
    let kept : List ℕ → Drained = λ jobs. record { command = c.self.inside.disks.items; jobs = jobs } in
    subst (λ (drains : Drained). kept c.retain.new.self.items ≡ after_end c.args.job drains) c.self.view_is
    (ap kept
    (filter_same _ (λ (other : ℕ). not (other == c.args.job)) _ (λ x b f' t. search rules) c.self.inside.jobs.items c.retain.new.self.items
    c.retain.ensures.filtered))
