use Rattle.std.proofs.Common.{◌+◌, ◌%◌, ltb, replicate, ap, ◌∙◌, w8}
use Rattle.std.specs.Simd.Lanes.{zip2, sel_l}
use Rattle.std.proofs.lemmas.Simd.{tops_compared}
use Rattle.blk_runs.proofs.SixteenLanes.{glyphs-of}
use Rattle.blk_runs.proofs.vectors.glyphs.Goals as goal

pub returns : goal.returns
returns c =
    ap (λ ms. zip2 (λ a b. (a + b) % 256) c.args.digits (sel_l ms (replicate 32 48) (replicate 32 87))) (tops_compared w8 ltb c.args.digits (replicate 32 10))
    ∙ glyphs-of 32 c.args.digits c.fits-digits.0 c.requires
