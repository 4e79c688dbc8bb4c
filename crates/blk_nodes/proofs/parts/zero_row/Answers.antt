use Rattle.std.proofs.Common.{◌≡◌, ◌<◌, Some, refl}
use Rattle.q2_image.specs.Image.{clusters_in}
use Rattle.blk_nodes.specs.Walk.{IsKnownAt}
use Rattle.blk_nodes.proofs.ImageCalls.{clusters_same}
use Rattle.blk_nodes.proofs.Rows.{image_found}
use Rattle.blk_nodes.proofs.parts.zero_row.Goals as goal

pub zero_fits-requires : goal.zero_fits-requires
zero_fits-requires g c =
    let there : c.args.row.now ≡ Some c.in-Some.taken = cc (c.take.ensures.value, c.in-Some.is) in
    let of = image_found c.args.row.now c.in-Some.taken c.in-Qcow2.image (λ image. ((c.args.cluster < clusters_in image) × IsKnownAt c.args.file c.args.devices.now image)) there c.in-Qcow2.is c.requires.image in
    rw (clusters_same c.in-Qcow2.image c.zero_image-outcome.new.image c.zero_image-outcome.ensures.call.wrote.header) of.0

pub returns : goal.returns
returns g c = record {
  row = c.in-Some.taken;
  image = c.in-Qcow2.image;
  now = c.zero_image-outcome.new.image;
  there = cc (c.take.ensures.value, c.in-Some.is);
  driver = c.in-Qcow2.is;
  left = refl;
  opened = c.zero_fits.ensures.open;
  call = c.zero_image-outcome.ensures;
}
