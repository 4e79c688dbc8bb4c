use Rattle.std.proofs.Common.{◌≡◌, ◌<◌, Some, length, refl}
use Rattle.q2_image.specs.Image.{cluster_size_in, clusters_in}
use Rattle.q2_image.specs.Writing.{PutFits}
use Rattle.blk_nodes.specs.Walk.{IsKnownAt}
use Rattle.blk_nodes.specs.Writing.{FitsAt}
use Rattle.blk_nodes.proofs.ImageCalls.{clusters_same}
use Rattle.blk_nodes.proofs.Rows.{image_found}
use Rattle.blk_nodes.proofs.parts.put_row.Goals as goal

pub zero_fits-requires : goal.zero_fits-requires
zero_fits-requires g c =
    let there : c.args.row.now ≡ Some c.in-Some.taken = cc (c.take.ensures.value, c.in-Some.is) in
    let of = image_found c.args.row.now c.in-Some.taken c.in-Qcow2.image (λ image. ((length c.args.bytes.now ≡ cluster_size_in image) × (c.args.cluster < clusters_in image) × IsKnownAt c.args.file c.args.devices.now image × FitsAt c.args.file c.args.devices.now (PutFits image c.args.cluster))) there c.in-Qcow2.is c.requires.image in
    rw (clusters_same c.in-Qcow2.image c.put_image-outcome.new.image c.put_image-outcome.ensures.call.wrote.header) of.1

pub returns : goal.returns
returns g c = record {
  row = c.in-Some.taken;
  image = c.in-Qcow2.image;
  now = c.put_image-outcome.new.image;
  there = cc (c.take.ensures.value, c.in-Some.is);
  driver = c.in-Qcow2.is;
  left = refl;
  opened = c.zero_fits.ensures.open;
  call = c.put_image-outcome.ensures;
}
