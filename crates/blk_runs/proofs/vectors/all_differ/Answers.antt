use Rattle.std.proofs.Common.{◌%◌, ◌^◌, eqb, ap, sym, ◌∙◌, arith, w8}
use Rattle.std.specs.Simd.Lanes.{mask_l, zip2}
use Rattle.std.proofs.lemmas.Bool.{eqb-true}
use Rattle.std.proofs.lemmas.Simd.{tops_compared, mask_l-mod, length-zip2}
use Rattle.blk_runs.proofs.SixteenLanes.{differing}
use Rattle.blk_runs.proofs.vectors.all_differ.Goals as goal

pub returns : goal.returns
returns c = λ yes.
    let a = c.args.a in
    let b = c.args.b in
    let long = length-zip2 eqb a b (c.fits-a.0 ∙ sym c.fits-b.0) in
    differing a b c.fits-a.0 c.fits-b.0
    (sym (mask_l-mod (zip2 eqb a b) 64 (omega (arith, long, c.fits-a.0))) ∙ ap (λ ms. mask_l ms % 2 ^ 64) (sym (tops_compared w8 eqb a b)) ∙ eqb-true _ 0 yes)
