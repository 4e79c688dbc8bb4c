use Rattle.std.proofs.Common.{replicate}
use Rattle.q2_image.specs.Image.{cluster_size_in}
use Rattle.q2_image.specs.Made.{zero_steps}
use Rattle.q2_image.proofs.StepsMade.{changes_by, changes_none, steps_cause}
use Rattle.q2_image.proofs.PutStops.{cluster_zeros, zero_header, zero_stops}
use Rattle.q2_image.proofs.image.Image.zero_cluster.Goals as goal

pub returns-then-not-zero_fits-clause-changes : goal.returns-then-not-zero_fits-clause-changes
returns-then-not-zero_fits-clause-changes g c = changes_none g.D.Device c.args.self.now c.args.dev.now

pub returns-clause-changes : goal.returns-clause-changes
returns-clause-changes g c =
    changes_by g.D.Device c.args.self.now c.zero_cleared.new.self (zero_steps c.args.self.now c.args.cluster) c.zero_cleared.result c.args.dev.now c.zero_cleared.new.dev
    c.zero_cleared.ensures.cause c.zero_cleared.ensures.steps

pub returns-then-not-zero_fits-clause-stops : goal.returns-then-not-zero_fits-clause-stops
returns-then-not-zero_fits-clause-stops g c = λ fits zeros are file told.
    zero_stops file c.args.self.now c.args.cluster zeros (g.D.Device.capacity c.args.dev.now) (c.requires.image file told) c.if-not-zero_fits.ensures.open
    c.if-not-zero_fits.ensures.below are fits

pub returns-clause-stops : goal.returns-clause-stops
returns-clause-stops g c = λ fits zeros are file told.
    zero_stops file c.args.self.now c.args.cluster zeros (g.D.Device.capacity c.args.dev.now) (c.requires.image file told) c.if-not-zero_fits.ensures.open
    c.if-not-zero_fits.ensures.below are fits

pub returns-then-not-zero_fits-clause-header_kept : goal.returns-then-not-zero_fits-clause-header_kept
returns-then-not-zero_fits-clause-header_kept g c = λ fits file told.
    zero_header file c.args.self.now c.args.cluster (replicate (cluster_size_in c.args.self.now) 0) (g.D.Device.capacity c.args.dev.now) (c.requires.image file told)
    c.if-not-zero_fits.ensures.open c.if-not-zero_fits.ensures.below (cluster_zeros (cluster_size_in c.args.self.now)) fits

pub returns-clause-header_kept : goal.returns-clause-header_kept
returns-clause-header_kept g c = λ fits file told.
    zero_header file c.args.self.now c.args.cluster (replicate (cluster_size_in c.args.self.now) 0) (g.D.Device.capacity c.args.dev.now) (c.requires.image file told)
    c.if-not-zero_fits.ensures.open c.if-not-zero_fits.ensures.below (cluster_zeros (cluster_size_in c.args.self.now)) fits

pub returns-clause-cause : goal.returns-clause-cause
returns-clause-cause g c =
    steps_cause g.D.Device c.args.self.now c.zero_cleared.new.self (zero_steps c.args.self.now c.args.cluster) c.zero_cleared.result c.args.dev.now c.zero_cleared.new.dev
    c.zero_cleared.ensures.cause c.zero_cleared.ensures.steps
