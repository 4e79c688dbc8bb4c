use Rattle.std.proofs.Common.{◌≡◌, ℕ, ◌+◌, ◌<◌, ◌≤◌, Bool, true, false, sym, ap, ◌∙◌, arith}
use Rattle.std.specs.Prelude.{◌==◌}
use Rattle.std.specs.List.{list_any}
use Rattle.qmp_rules.proofs.EditLemmas.{number_free, number_taken, number_end}
use Rattle.qmp_rules.proofs.edits.unused_number.Goals as goal

pub returns-then-not-has_number : goal.returns-then-not-has_number
returns-then-not-has_number c =
    let number : ℕ = c.args.first + c.from.result in
    let is : number ≡ c.args.first + c.loop-k.k = ap (λ (n : ℕ). c.args.first + n) c.from.ensures in
    let free : list_any (λ device. device.number == number) c.args.devices.now ≡ false = first_of (cc, grind arith) in
    sym (number_free c.loop-k.k c.args.first number c.args.devices.now is free) ∙ c.loop-k.invariant

pub loop-k-preserved : goal.loop-k-preserved
loop-k-preserved c =
    let number : ℕ = c.args.first + c.from.result in
    let less : c.loop-k.k < 64 = omega arith in
    let is : number ≡ c.args.first + c.loop-k.k = ap (λ (n : ℕ). c.args.first + n) c.from.ensures in
    let taken : list_any (λ device. device.number == number) c.args.devices.now ≡ true = first_of (cc, grind arith) in
    sym (number_taken c.loop-k.k c.args.first number c.args.devices.now less is taken) ∙ c.loop-k.invariant

pub returns : goal.returns
returns c =
    let past : 64 ≤ c.loop-k.k = omega arith in
    let all : c.args.first + 64 ≡ c.args.first + c.loop-k.k = omega arith in
    all ∙ sym (number_end c.loop-k.k c.args.first c.args.devices.now past) ∙ c.loop-k.invariant
