use Rattle.std.proofs.Common.{◌≡◌, true, get_or, sym, ap, ◌∙◌, arith, rules}
use Rattle.blk_runs.proofs.LaneLemmas.{same-further}
use Rattle.blk_runs.proofs.lanes.whole_lanes.Goals as goal

pub loop-at-preserved : goal.loop-at-preserved
loop-at-preserved c =
    let yes : c.are_all.result ≡ true = search rules in
    record {
      within = omega arith;
      same = same-further c.args.bytes.now c.args.byte c.loop-at.at (omega arith) c.loop-at.invariant.same
          (λ k below. ap (λ l. get_or l k 0) (sym c.load.ensures) ∙ c.are_all.ensures yes k below);
    }
