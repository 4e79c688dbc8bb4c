use Rattle.std.proofs.Common.{◌≡◌}
use Rattle.q2_image.specs.Loading.{counts_loaded}
use Rattle.q2_image.proofs.Counted.{loaded_fits}
use Rattle.q2_image.proofs.counting.load_refcounts.Goals as goal

pub load_counts-requires-clause-reach : goal.load_counts-requires-clause-reach
load_counts-requires-clause-reach g c =
    let fits = loaded_fits c.args.header.now (g.D.Device.size c.args.dev.now) c.requires.limits c.requires.placed in
    let loaded : c.max-loaded.result ≡ counts_loaded c.args.header.now (g.D.Device.size c.args.dev.now) = cc in
    rw loaded fits
