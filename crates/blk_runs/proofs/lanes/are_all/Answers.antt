use Rattle.std.proofs.Common.{not, eqb, sym, ◌∙◌, arith, w8}
use Rattle.std.proofs.lemmas.Bool.{eqb-true}
use Rattle.std.proofs.lemmas.Simd.{bitmask_splat}
use Rattle.blk_runs.proofs.LaneLemmas.{same_mask}
use Rattle.blk_runs.proofs.lanes.are_all.Goals as goal

pub returns : goal.returns
returns c = λ yes k below.
    let mask = bitmask_splat w8 (λ a b. not (eqb a b)) c.args.lanes 32 c.args.byte c.fits-lanes.0 (omega arith) in
    same_mask c.args.lanes c.args.byte c.fits-lanes.0 (sym mask ∙ eqb-true _ 0 yes) k (omega (arith, c.fits-lanes.0))
