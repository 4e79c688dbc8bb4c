use Rattle.std.proofs.Common.{◌≡◌, ◌-◌, ◌<◌, ℕ, true, false, sym, ◌∙◌, ap, arith, inl, inr}
use Rattle.std.proofs.lemmas.Bool.{cases_lt}
use Rattle.node_copies.specs.Sectors.{has_sector, runs_from}
use Rattle.node_copies.proofs.Runs.{run_first, run_skip}
use Rattle.node_copies.proofs.sectors.next_run.Goals as goal

pub returns-then-first-count : goal.returns-then-first-count
returns-then-first-count c =
    let count : ℕ = c.args.count in
    let first = c.first_asked-first.ensures in
    let same = c.if-first-count.true in
    let none : count - c.first_asked-first.result ≡ 0 = omega (arith, same) in
    run_skip c.args.from c.first_asked-first.result count c.args.sectors first.from first.most first.before
    ∙ ap (λ (m : ℕ). runs_from m c.args.sectors c.first_asked-first.result) none

pub returns : goal.returns
returns c =
    let first : ℕ = c.first_asked-first.result in
    let to : ℕ = c.first_unasked-to.result in
    let count : ℕ = c.args.count in
    let begins = c.first_asked-first.ensures in
    let ends = c.first_unasked-to.ensures in
    let below : first < count = elim (cases_lt first count) [
      | inl less ↦ less
      | inr past ↦ absurd (c.if-first-count.false (omega (arith, past, begins.most)))
    ] in
    let some : first < to = elim (cases_lt first to) [
      | inl less ↦ less
      | inr past ↦
          let same : to ≡ first = omega (arith, past, ends.from) in
          let asked : has_sector c.args.sectors first ≡ true = begins.asked below in
          let unasked : has_sector c.args.sectors to ≡ false = ends.unasked (omega (arith, same, below)) in
          let clash : true ≡ false = sym asked ∙ ap (has_sector c.args.sectors) (sym same) ∙ unasked in
          absurd (cc clash)
    ] in (
      begins.from,
      some,
      ends.most,
      run_skip c.args.from first count c.args.sectors begins.from begins.most begins.before
          ∙ run_first first to count c.args.sectors some ends.most ends.before ends.unasked,
    )
