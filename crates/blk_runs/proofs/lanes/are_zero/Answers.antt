use Rattle.std.proofs.Common.{not, eqb, sym, ◌∙◌, arith, w8, eq-eqb}
use Rattle.std.proofs.lemmas.Bool.{eqb-true}
use Rattle.std.proofs.lemmas.Simd.{bitmask_splat}
use Rattle.blk_runs.proofs.LaneLemmas.{empty_mask, mask_of_zeros}
use Rattle.blk_runs.proofs.lanes.are_zero.Goals as goal

pub returns : goal.returns
returns c =
    let mask = bitmask_splat w8 (λ a b. not (eqb a b)) c.args.lanes 32 0 c.fits-lanes.0 (omega arith) in
    ((λ none. empty_mask c.args.lanes (sym mask ∙ eqb-true _ 0 none)), (λ zeros. eq-eqb _ 0 (mask ∙ mask_of_zeros c.args.lanes zeros)))
