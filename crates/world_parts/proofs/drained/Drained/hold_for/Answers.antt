use Rattle.std.proofs.Common.{◌≡◌, false, length, refl, sym, ◌∙◌, ap, subst, arith, inl, inr}
use Rattle.std.proofs.lemmas.Bool.{false≢true}
use Rattle.flat_machine.specs.Marks.{Drained, after_turn}
use Rattle.qmp_rules.specs.Chains.{is_listed}
use Rattle.world_parts.proofs.drained.Drained.hold_for.Goals as goal

pub push_reserved-requires : goal.push_reserved-requires
push_reserved-requires c = elim c.requires [
  | inl listed ↦ absurd (false≢true (sym c.if-not-holds_for.true ∙ c.holds_for.ensures ∙ listed))
  | inr few ↦ (let same = ap (λ (drains : Drained). length drains.jobs) c.self.view_is in omega (arith, few, same, c.self.invariant))
]

pub returns-then-not-holds_for : goal.returns-then-not-holds_for
returns-then-not-holds_for c =
    let none : is_listed c.args.job c.self.inside.jobs.items ≡ false
    = ap (λ (drains : Drained). is_listed c.args.job drains.jobs) c.self.view_is ∙ sym c.holds_for.ensures ∙ c.if-not-holds_for.true in
    let pushed : Drained = record { command = c.self.inside.disks.items; jobs = c.push_reserved.new.self.items } in
    subst (λ (drains : Drained). pushed ≡ after_turn c.args.job drains) c.self.view_is (rw (none, c.push_reserved.ensures.items) refl)
