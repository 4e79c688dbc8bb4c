use Rattle.std.proofs.Common.{◌≡◌, refl, ap, ◌∙◌, arith}
use Rattle.q2_image.specs.Image.{cluster_size_in}
use Rattle.q2_image.proofs.image.Image.put_fits.Goals as goal

pub returns-clause-fits : goal.returns-clause-fits
returns-clause-fits c =
    let size : c.cluster_size.result ≡ cluster_size_in c.args.self.now = c.cluster_size.ensures.size ∙ ap cluster_size_in c.self.view_is in
    let place = c.host_for.ensures in (
      λ within. record {
        entry = c.if-not-zero_fits.ensures.fits.0 refl;
        host = c.if-not-host_fits.ensures.0 refl;
        payload = let ends = c.ends_within.ensures.0 within in omega (arith, ends, size, place);
      },
      λ fits. c.ends_within.ensures.1 (let ends = fits.payload in omega (arith, ends, size, place)),
    )
