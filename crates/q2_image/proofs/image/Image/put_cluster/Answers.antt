use Rattle.q2_image.specs.Made.{put_steps}
use Rattle.q2_image.proofs.StepsMade.{changes_by, changes_none, steps_cause}
use Rattle.q2_image.proofs.PutStops.{put_header, put_stops}
use Rattle.q2_image.proofs.image.Image.put_cluster.Goals as goal

pub returns-then-not-put_fits-clause-changes : goal.returns-then-not-put_fits-clause-changes
returns-then-not-put_fits-clause-changes g c = changes_none g.D.Device c.args.self.now c.args.dev.now

pub returns-clause-changes : goal.returns-clause-changes
returns-clause-changes g c =
    changes_by g.D.Device c.args.self.now c.put_cleared.new.self (put_steps c.args.self.now c.args.cluster c.args.bytes.now) c.put_cleared.result c.args.dev.now c.put_cleared.new.dev
    c.put_cleared.ensures.cause c.put_cleared.ensures.steps

pub returns-then-not-put_fits-clause-stops : goal.returns-then-not-put_fits-clause-stops
returns-then-not-put_fits-clause-stops g c = λ fits file told.
    put_stops file c.args.self.now c.args.cluster c.args.bytes.now (g.D.Device.capacity c.args.dev.now) (c.requires.image file told) c.if-not-put_fits.ensures.open
    c.if-not-put_fits.ensures.below c.requires.whole fits

pub returns-clause-stops : goal.returns-clause-stops
returns-clause-stops g c = λ fits file told.
    put_stops file c.args.self.now c.args.cluster c.args.bytes.now (g.D.Device.capacity c.args.dev.now) (c.requires.image file told) c.if-not-put_fits.ensures.open
    c.if-not-put_fits.ensures.below c.requires.whole fits

pub returns-then-not-put_fits-clause-header_kept : goal.returns-then-not-put_fits-clause-header_kept
returns-then-not-put_fits-clause-header_kept g c = λ fits file told.
    put_header file c.args.self.now c.args.cluster c.args.bytes.now (g.D.Device.capacity c.args.dev.now) (c.requires.image file told) c.if-not-put_fits.ensures.open
    c.if-not-put_fits.ensures.below c.requires.whole fits

pub returns-clause-header_kept : goal.returns-clause-header_kept
returns-clause-header_kept g c = λ fits file told.
    put_header file c.args.self.now c.args.cluster c.args.bytes.now (g.D.Device.capacity c.args.dev.now) (c.requires.image file told) c.if-not-put_fits.ensures.open
    c.if-not-put_fits.ensures.below c.requires.whole fits

pub returns-clause-cause : goal.returns-clause-cause
returns-clause-cause g c =
    steps_cause g.D.Device c.args.self.now c.put_cleared.new.self (put_steps c.args.self.now c.args.cluster c.args.bytes.now) c.put_cleared.result c.args.dev.now c.put_cleared.new.dev
    c.put_cleared.ensures.cause c.put_cleared.ensures.steps
