use Rattle.std.proofs.Common.{◌≡◌, ◌<◌, ◌≤◌, ℕ, List, Option, Some, length, sym, ap, ◌∙◌, arith, rules}
use Rattle.qmp_rules.specs.Chains.{down_to}
use Rattle.qmp_rules.proofs.ChainLemmas.{cut_found, cut_end}
use Rattle.qmp_rules.proofs.job_looks.cut_below.Goals as goal

pub returns-then-eq : goal.returns-then-eq
returns-then-eq c =
    let ids : List ℕ = c.loop-i.ids.items in
    let less : c.loop-i.i < length ids = omega (arith, ap length c.loop-i.invariant.same, c.len-i-end.ensures) in
    let found : c.index.result.now ≡ c.in-Some.base = first_of (search rules, grind arith) in
    c.truncate.ensures.items
    ∙ cut_found c.in-Some.base c.loop-i.i c.index.result.now ids (down_to (Some c.in-Some.base) ids) less c.index.ensures
    found c.loop-i.invariant.cut
    ∙ ap (λ (b : Option ℕ). down_to b ids) (sym c.in-Some.is)
    ∙ ap (λ (xs : List ℕ). down_to c.args.base xs) c.loop-i.invariant.same

pub returns : goal.returns
returns c =
    let ids : List ℕ = c.loop-i.ids.items in
    let past : length ids ≤ c.loop-i.i = omega (arith, ap length c.loop-i.invariant.same, c.len-i-end.ensures) in
    cut_end c.in-Some.base c.loop-i.i ids (down_to (Some c.in-Some.base) ids) past c.loop-i.invariant.cut
    ∙ ap (λ (b : Option ℕ). down_to b ids) (sym c.in-Some.is)
    ∙ ap (λ (xs : List ℕ). down_to c.args.base xs) c.loop-i.invariant.same
