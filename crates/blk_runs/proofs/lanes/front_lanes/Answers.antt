use Rattle.std.proofs.Common.{not, eqb, ap, sym, ◌∙◌, arith, w8}
use lib.Count.{count_trailing_zeros}
use Rattle.std.proofs.lemmas.Simd.{bitmask_splat}
use Rattle.blk_runs.proofs.LaneLemmas.{front-all, front-some}
use Rattle.blk_runs.proofs.lanes.front_lanes.Goals as goal

pub returns-then-others-eq0 : goal.returns-then-others-eq0
returns-then-others-eq0 c =
    let mask = bitmask_splat w8 (λ a b. not (eqb a b)) c.args.lanes 32 c.args.byte c.fits-lanes.0 (omega arith) in
    front-all c.args.byte c.args.lanes c.fits-lanes.0 (sym mask ∙ c.if-others-eq0.true)

pub returns-else-others-eq0 : goal.returns-else-others-eq0
returns-else-others-eq0 c =
    let mask = bitmask_splat w8 (λ a b. not (eqb a b)) c.args.lanes 32 c.args.byte c.fits-lanes.0 (omega arith) in
    front-some c.args.byte _ c.args.lanes c.fits-lanes.0 (omega (arith, mask, c.if-others-eq0.false)) (ap (λ n. count_trailing_zeros 64 n) mask)
