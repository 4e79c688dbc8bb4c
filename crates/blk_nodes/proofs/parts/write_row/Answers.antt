use Rattle.std.proofs.Common.{◌≡◌, ◌<◌, Some, refl, ap}
use Rattle.blk_base.specs.Pieces.{Extent}
use Rattle.q2_image.specs.Image.{cluster_size_in, clusters_in}
use Rattle.q2_image.specs.Reading.{IsHost, IsWithinCluster}
use Rattle.q2_image.specs.Room.{cluster_of, entry_for}
use Rattle.blk_nodes.specs.Walk.{IsKnownAt}
use Rattle.blk_nodes.proofs.ImageCalls.{clusters_same}
use Rattle.blk_nodes.proofs.Rows.{image_found}
use Rattle.blk_nodes.proofs.parts.write_row.Goals as goal

pub zero_fits-requires : goal.zero_fits-requires
zero_fits-requires g c =
    let there : c.args.row.now ≡ Some c.in-Some.taken = cc (c.take.ensures.value, c.in-Some.is) in
    let of = image_found c.args.row.now c.in-Some.taken c.in-Qcow2.image (λ image. (IsWithinCluster (cluster_size_in image) c.args.span × (cluster_of image c.args.span < clusters_in image) × (c.args.span.start < image.header.size) × IsHost (entry_for image c.args.span) × IsKnownAt c.args.file c.args.devices.now image)) there c.in-Qcow2.is c.requires.image in
    let start : c.span.inside.start ≡ c.args.span.start = ap (λ (s : Extent). s.start) c.span.view_is in
    rw (start, c.cluster_size.ensures.size, clusters_same c.in-Qcow2.image c.write_image-outcome.new.image c.write_image-outcome.ensures.call.wrote.header) of.1

pub returns : goal.returns
returns g c = record {
  row = c.in-Some.taken;
  image = c.in-Qcow2.image;
  now = c.write_image-outcome.new.image;
  there = cc (c.take.ensures.value, c.in-Some.is);
  driver = c.in-Qcow2.is;
  left = refl;
  opened = c.zero_fits.ensures.open;
  call = c.write_image-outcome.ensures;
}
