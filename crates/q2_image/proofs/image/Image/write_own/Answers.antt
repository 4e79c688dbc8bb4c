use Rattle.std.proofs.Common.{refl}
use Rattle.blk_base.proofs.DeviceLemmas.{untouched-same}
use Rattle.q2_image.proofs.OwnStops.{own_header, own_stops}
use Rattle.q2_image.proofs.image.Image.write_own.Goals as goal

pub returns-clause-stops : goal.returns-clause-stops
returns-clause-stops g c = λ file told.
    own_stops file c.args.self.now c.args.span c.args.bytes.now (c.requires.image file told) c.if-not-own_fits.ensures.open c.requires.disk c.requires.mapped c.requires.cluster c.requires.whole

pub returns-then-not-own_fits-clause-stops : goal.returns-then-not-own_fits-clause-stops
returns-then-not-own_fits-clause-stops g c = λ file told.
    own_stops file c.args.self.now c.args.span c.args.bytes.now (c.requires.image file told) c.if-not-own_fits.ensures.open c.requires.disk c.requires.mapped c.requires.cluster c.requires.whole

pub returns-clause-header_kept : goal.returns-clause-header_kept
returns-clause-header_kept g c = λ file told.
    own_header file c.args.self.now c.args.span c.args.bytes.now (c.requires.image file told) c.if-not-own_fits.ensures.open c.requires.disk c.requires.mapped c.requires.cluster c.requires.whole

pub returns-then-not-own_fits-clause-header_kept : goal.returns-then-not-own_fits-clause-header_kept
returns-then-not-own_fits-clause-header_kept g c = λ file told.
    own_header file c.args.self.now c.args.span c.args.bytes.now (c.requires.image file told) c.if-not-own_fits.ensures.open c.requires.disk c.requires.mapped c.requires.cluster c.requires.whole

pub returns-then-not-own_fits-clause-untouched : goal.returns-then-not-own_fits-clause-untouched
returns-then-not-own_fits-clause-untouched g c = λ full. (refl, untouched-same g.D.Device c.args.dev.now)
