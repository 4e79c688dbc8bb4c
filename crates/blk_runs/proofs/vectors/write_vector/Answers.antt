use Rattle.std.proofs.Common.{◌<◌, ◌++◌, map, false, take, refl, ap, sym, ◌∙◌, subst}
use Rattle.std.specs.Fmt.{digit_glyph}
use Rattle.std.specs.Simd.Lanes.{Each1}
use Rattle.blk_runs.proofs.SixteenLanes.{digits-small, text-of-parts, stored}
use Rattle.blk_runs.proofs.vectors.write_vector.Goals as goal

pub glyphs-pairs-requires : goal.glyphs-pairs-requires
glyphs-pairs-requires c = subst (Each1 (λ d. d < 16)) (sym c.digits_of.ensures) (digits-small c.args.bytes c.fits-bytes.1)

pub returns : goal.returns
returns c =
    let pairs = c.glyphs-pairs.ensures ∙ ap (map (digit_glyph false)) c.digits_of.ensures in
    stored c.args.at _ _ _ _ _ _ _ _ _ _ _ c.store.ensures c.store-2.ensures c.store-3.ensures c.store-4.ensures c.store-5.ensures
    ∙ ap (λ text. take c.args.at c.args.words.now ++ text) (text-of-parts c.args.bytes _ _ _ _ _ _ c.fits-bytes.0 pairs refl refl refl refl refl)
